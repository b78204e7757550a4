use Rattle.pc_ground.proofs.FlatRows.{rows_injective}
use Rattle.pc_ground.proofs.laws.rows_spell_one_tree.Goals as goal

pub returns : goal.returns
returns c = rows_injective
