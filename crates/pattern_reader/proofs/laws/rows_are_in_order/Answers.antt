use Rattle.pattern_reader.proofs.RowOrder.{rows_in_order}
use Rattle.pattern_reader.proofs.laws.rows_are_in_order.Goals as goal

pub returns : goal.returns
returns c = rows_in_order c.args.pattern.now
