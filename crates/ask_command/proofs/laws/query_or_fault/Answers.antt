use Rattle.ask_command.proofs.QueryOrFault.{query_or_fault}
use Rattle.ask_command.proofs.laws.query_or_fault.Goals as goal

pub returns : goal.returns
returns c = λ m. query_or_fault m c.args.bytes.now
