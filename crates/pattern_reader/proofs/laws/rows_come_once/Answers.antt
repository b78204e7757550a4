use Rattle.pattern_reader.proofs.RowOrder.{each_row_once}
use Rattle.pattern_reader.proofs.laws.rows_come_once.Goals as goal

pub returns : goal.returns
returns c = each_row_once c.args.pattern.now
