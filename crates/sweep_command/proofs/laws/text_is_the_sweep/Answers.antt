use Rattle.sweep_command.proofs.SweepOutcomes.{sweep_true}
use Rattle.sweep_command.proofs.laws.text_is_the_sweep.Goals as goal

pub returns : goal.returns
returns c = λ holds i status text a m p says. sweep_true a m p says
