use Rattle.std.specs.Prelude.{All}
use Rattle.lifted_facts.specs.Lifted.{LiftedStep}
use Rattle.lifter.specs.WrittenSteps.{plain_line}
use Rattle.lifted_check.specs.StepLines.{numbers_of, IsSmall}
use Rattle.lift_command.{specs.WrittenLines.{HasSmallCore}, proofs.PutLines.{all_next}}
use Rattle.lift_command.proofs.lifted_text.show_steps.Goals as goal

pub loop-k-preserved : goal.loop-k-preserved
loop-k-preserved c =
    let steps = c.args.steps.now in
    let s = plain_line c.line.result.now in
    record {
      numbers = all_next (λ (t : LiftedStep). All IsSmall (numbers_of t)) steps c.loop-k.k s c.line.ensures
          c.loop-k.invariant.numbers c.show_line.ensures.numbers;
      cores = all_next HasSmallCore steps c.loop-k.k s c.line.ensures c.loop-k.invariant.cores c.show_line.ensures.core;
    }
