use Rattle.sweep_command.proofs.SweepOutcomes.{ending_outcome, swept_outcome}
use Rattle.sweep_command.proofs.command.sweep_files.Goals as goal

pub returns-in-Err-clause-outcome : goal.returns-in-Err-clause-outcome
returns-in-Err-clause-outcome g c = ending_outcome c.in-Err.ending c.in-Err.ensures

pub returns-in-Ok-sweep-clause-outcome : goal.returns-in-Ok-sweep-clause-outcome
returns-in-Ok-sweep-clause-outcome g c = swept_outcome c.in-Ok.ensures c.in-Ok-sweep.answers.items
    (rw c.as_slice.ensures.value at c.in-Ok-sweep.ensures)

pub returns-in-Ok-sweep-clause-rows : goal.returns-in-Ok-sweep-clause-rows
returns-in-Ok-sweep-clause-rows g c = c.in-Ok-sweep.ensures.count
