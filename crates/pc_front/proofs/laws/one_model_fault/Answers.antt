use Rattle.pc_front.proofs.OneModel.{one_model_fault}
use Rattle.pc_front.proofs.laws.one_model_fault.Goals as goal

pub returns : goal.returns
returns c = one_model_fault c.args.bytes.now
