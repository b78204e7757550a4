use Rattle.std.proofs.Common.{Option, refl, sym, subst, arith}
use Rattle.pc_common.specs.declared.fault.FaultKind.TheVariants.{AgainExpectation}
use Rattle.pc_case.specs.Plain.{expectation}
use Rattle.litmus_reader.specs.{Content.{AgainExpected}, Builder.{stated_expectations}, declared.builder.StatedExpectation.{StatedExpectation}}
use Rattle.litmus_reader.proofs.builder.expectation_fault.Goals as goal

pub returns-in-Some : goal.returns-in-Some
returns-in-Some c =
    let s = c.in-Some.first in
    subst (λ (o : Option StatedExpectation). AgainExpected (stated_expectations o) c.args.at (AgainExpectation s.at c.args.at) c.args.at) (sym c.in-Some.is)
    ((expectation s.expect, s.at), (0, omega arith, refl), refl, refl)
