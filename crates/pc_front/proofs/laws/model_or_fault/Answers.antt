use Rattle.pc_front.proofs.ModelOrFault.{model_or_fault}
use Rattle.pc_front.proofs.laws.model_or_fault.Goals as goal

pub returns : goal.returns
returns c = model_or_fault c.args.bytes.now
