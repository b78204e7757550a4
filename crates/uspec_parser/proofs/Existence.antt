-- Tokens have an answer as a model and one as a formula.
use Rattle.std.specs.Prelude.{List}
use Rattle.ll_grammar.{specs.{Rules.{Derives}, FirstFault.{AreDecided, HasAnswer}}, proofs.{Existence.{decided_by, some_answer}, Faults.{answer-along}}}
use Rattle.uspec_parser.specs.{Marks.{IsMarkedModel, IsMarkedFormula}, Levels.{level_of}, Phrases.{rules, follow, terminals, listed, is_predictable, has_texts}}
use Rattle.uspec_parser.specs.declared.{terminal.Terminal.{Terminal}, phrase.Phrase.TheVariants.{Items, Operand}}
use Rattle.uspec_parser.proofs.{DerivedIsMarked.{marked_model_of, marked_formula_of}, MarkedIsDerived.{model_derived, formula_derived}}

-- two terminals are one or are not
decided : AreDecided Terminal
decided = decided_by terminals listed

pub model_answer : (cs : List Terminal) → HasAnswer IsMarkedModel cs
model_answer cs =
    let r = some_answer rules follow decided is_predictable has_texts Items cs in
    (r.0, answer-along (Derives rules Items) IsMarkedModel marked_model_of model_derived cs r.0 r.1)

pub formula_answer : (cs : List Terminal) → HasAnswer IsMarkedFormula cs
formula_answer cs =
    let r = some_answer rules follow decided is_predictable has_texts (Operand (level_of 0) 0) cs in
    (r.0, answer-along (Derives rules (Operand (level_of 0) 0)) IsMarkedFormula marked_formula_of formula_derived cs r.0 r.1)
