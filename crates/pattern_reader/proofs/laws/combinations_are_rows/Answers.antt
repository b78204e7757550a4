use Rattle.pattern_reader.proofs.RowOrder.{all_combinations}
use Rattle.pattern_reader.proofs.laws.combinations_are_rows.Goals as goal

pub returns : goal.returns
returns c = all_combinations c.args.pattern.now
