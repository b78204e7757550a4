use Rattle.std.proofs.Common.{List, subst, ◌∙◌}
use Rattle.pc_syntax.specs.Written.{written_model}
use Rattle.uspec_parser.specs.{Terminals.{Lexeme}, Marks.{IsMarkedModel}, Answers.{terminals}, Descent.{Items}}
use Rattle.uspec_parser.proofs.Trees.{refusal_is, accepted_is, model_tree}
use Rattle.uspec_parser.proofs.parse.parse_model.Goals as goal

pub returns-in-Some-clause-fault : goal.returns-in-Some-clause-fault
returns-in-Some-clause-fault c =
    refusal_is IsMarkedModel c.deref.result.now (terminals c.args.tokens.now) c.in_ok-fault.field-0 c.in-Some.fault c.refusal.result
    c.in_ok-fault.ensures (c.deref.ensures.value ∙ c.in_ok-terminals.ensures) c.in-Some.is c.refusal.ensures

pub returns-clause-accepted : goal.returns-clause-accepted
returns-clause-accepted c =
    accepted_is IsMarkedModel c.deref.result.now (terminals c.args.tokens.now) c.in_ok-fault.field-0
    c.in_ok-fault.ensures (c.deref.ensures.value ∙ c.in_ok-terminals.ensures) c.in_default.is

pub returns-clause-tree : goal.returns-clause-tree
returns-clause-tree c =
    let accepted = accepted_is IsMarkedModel c.deref.result.now (terminals c.args.tokens.now) c.in_ok-fault.field-0
    c.in_ok-fault.ensures (c.deref.ensures.value ∙ c.in_ok-terminals.ensures) c.in_default.is in
    let tree = written_model c.in_ok-model.field-0 in
    model_tree c.args.tokens.now tree accepted
    (subst (λ (xs : List Lexeme). Items xs tree.stages tree.items) c.new-cursor.ensures c.in_ok-model.ensures)
