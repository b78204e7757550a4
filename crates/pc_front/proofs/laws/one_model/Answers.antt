use Rattle.pc_front.proofs.OneModel.{one_whole_model}
use Rattle.pc_front.proofs.laws.one_model.Goals as goal

pub returns : goal.returns
returns c = one_whole_model c.args.bytes.now
