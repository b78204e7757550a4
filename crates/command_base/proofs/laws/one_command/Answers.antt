use Rattle.command_base.proofs.OneCommand.{one_command}
use Rattle.command_base.proofs.laws.one_command.Goals as goal

pub returns : goal.returns
returns c = one_command
