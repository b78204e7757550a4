-- What is shown of the steps before the next one.
use Rattle.std.{proofs.Common.{take}, specs.Prelude.{All}}
use Rattle.lifted_check.specs.StepLines.{numbers_of, IsSmall}
use Rattle.lift_command.specs.WrittenLines.{HasSmallCore}
use Rattle.lift_command.proofs.lifted_text.show_steps.Given as goal

abbrev pub invariant-loop-k : goal.invariant-loop-k
invariant-loop-k l = record {
  numbers : All (λ s. All IsSmall (numbers_of s)) (take l.k l.steps);
  cores : All HasSmallCore (take l.k l.steps);
}
