use Rattle.pattern_reader.proofs.RowOrder.{rows_of_values}
use Rattle.pattern_reader.proofs.laws.rows_are_combinations.Goals as goal

pub returns : goal.returns
returns c = rows_of_values c.args.pattern.now
