use Rattle.pc_front.proofs.OneModel.{no_whole_fault}
use Rattle.pc_front.proofs.laws.no_model_fault.Goals as goal

pub returns : goal.returns
returns c = λ m sound. no_whole_fault c.args.bytes.now m sound.model sound.no_fault
