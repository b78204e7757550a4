use Rattle.std.proofs.{Common.{[], ◌∷◌, sym, subst, ◌∙◌, List}, lemmas.List.{append-nil}}
use Rattle.pc_syntax.specs.declared.term.Word.{Word}
use Rattle.uspec_parser.{specs.{Terminals.{Lexeme}, Descent.{Parameters, word, Parameters.{ends, goes_on}}}, proofs.Pushed.{pushed, all_shared}}
use Rattle.uspec_parser.proofs.cursor.Cursor.parameters.Goals as goal

pub loop-alloc-preserved : goal.loop-alloc-preserved
loop-alloc-preserved c = λ more rest others.
    let left = subst (λ (xs : List Lexeme). Parameters xs more rest) c.skip.ensures others in
    let all = c.loop-alloc.invariant (word c.loop-alloc.self ∷ more) rest
    (goes_on (sym c.is_parameter_next.ensures ∙ c.loop-alloc-test.true) left) in
    subst (λ (args : List Word). Parameters c.args.self.now args rest)
    (pushed c.push.new.self c.loop-alloc.words more c.in_ok-word.field-0 (word c.loop-alloc.self) c.in_ok-push.ensures c.in_ok-word.ensures) all

pub returns : goal.returns
returns c =
    let all =
    subst (λ (args : List Word). Parameters c.args.self.now args c.loop-alloc.self) (append-nil c.loop-alloc.words)
    (c.loop-alloc.invariant [] c.loop-alloc.self (ends (sym c.is_parameter_next.ensures ∙ c.loop-alloc-test.false))) in
    all_shared c.from_listed.result c.loop-alloc.words (λ (args : List Word). Parameters c.args.self.now args c.loop-alloc.self) all c.from_listed.ensures
