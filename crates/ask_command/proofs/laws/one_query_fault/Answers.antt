use Rattle.ask_command.proofs.OneQuery.{one_fault}
use Rattle.ask_command.proofs.laws.one_query_fault.Goals as goal

pub returns : goal.returns
returns c = λ m. one_fault m c.args.bytes.now
