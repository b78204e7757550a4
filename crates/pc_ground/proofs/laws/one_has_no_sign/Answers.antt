use Rattle.pc_ground.proofs.Refuted.{one_has_no_sign}
use Rattle.pc_ground.proofs.laws.one_has_no_sign.Goals as goal

pub returns : goal.returns
returns c = one_has_no_sign
