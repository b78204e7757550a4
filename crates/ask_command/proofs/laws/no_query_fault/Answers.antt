use Rattle.ask_command.proofs.OneQuery.{no_fault_beside}
use Rattle.ask_command.proofs.laws.no_query_fault.Goals as goal

pub returns : goal.returns
returns c = λ m. no_fault_beside m c.args.bytes.now
