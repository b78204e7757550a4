use Rattle.std.proofs.Common.{IfOk, subst}
use Rattle.ll_grammar.{specs.{Rules.{Derives}, FirstFault.{IsAnswer}}, proofs.Faults.{if_ok-along}}
use Rattle.uspec_parser.specs.{Levels.{level_of}, Marks.{IsMarkedFormula}, Phrases.{rules}, declared.{level.Level.{Level}, phrase.Phrase.TheVariants.{Operand}}}
use Rattle.uspec_parser.proofs.{DerivedIsMarked.{marked_formula_of}, MarkedIsDerived.{formula_derived}}
use Rattle.uspec_parser.proofs.parse.formula_fault.Goals as goal

pub returns : goal.returns
returns c =
    if_ok-along (Derives rules (Operand (level_of 0) 0)) IsMarkedFormula marked_formula_of formula_derived c.args.terminals.now
    c.first_fault.result
    (subst (λ (l : Level). IfOk c.first_fault.result (IsAnswer (Derives rules (Operand l 0)) c.args.terminals.now)) c.new.ensures c.first_fault.ensures)
