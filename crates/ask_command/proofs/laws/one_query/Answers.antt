use Rattle.ask_command.proofs.OneQuery.{one_whole_formula}
use Rattle.ask_command.proofs.laws.one_query.Goals as goal

pub returns : goal.returns
returns c = one_whole_formula c.args.bytes.now
