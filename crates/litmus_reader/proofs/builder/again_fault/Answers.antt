use Rattle.std.proofs.Common.{List, Some, None, subst}
use Rattle.pc_case.specs.declared.stated.Stated.{Stated}
use Rattle.litmus_reader.{specs.{Builder.{word_of}, Values.{IsValueAt}}, proofs.ValueFacts.{again-stated, again-some}}
use Rattle.litmus_reader.proofs.builder.again_fault.Goals as goal

pub returns-in-None : goal.returns-in-None
returns-in-None c = λ before are.
    again-stated (word_of c.args.when) before c.args.line
    (subst (λ (lines : List Stated). IsValueAt lines c.args.line.pa None) are
    (subst (IsValueAt c.args.values.now c.args.line.pa) c.in-None.is c.get.ensures))

pub returns-in-Some : goal.returns-in-Some
returns-in-Some c = λ before are.
    rw (c.again_kind.ensures, c.value.ensures) (again-some (word_of c.args.when) before c.args.line c.in-Some.first
    (subst (λ (lines : List Stated). IsValueAt lines c.args.line.pa (Some c.in-Some.first)) are
    (subst (IsValueAt c.args.values.now c.args.line.pa) c.in-Some.is c.get.ensures)))
