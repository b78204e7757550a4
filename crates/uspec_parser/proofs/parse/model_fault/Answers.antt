use Rattle.ll_grammar.{specs.Rules.{Derives}, proofs.Faults.{if_ok-along}}
use Rattle.uspec_parser.{specs.{Marks.{IsMarkedModel}, Phrases.{rules}, declared.phrase.Phrase.TheVariants.{Items}}, proofs.DerivedIsMarked.{marked_model_of}}
use Rattle.uspec_parser.proofs.MarkedIsDerived.{model_derived}
use Rattle.uspec_parser.proofs.parse.model_fault.Goals as goal

pub returns : goal.returns
returns c =
    if_ok-along (Derives rules Items) IsMarkedModel marked_model_of model_derived c.args.terminals.now c.first_fault.result c.first_fault.ensures
