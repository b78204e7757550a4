use Rattle.litmus_reader.proofs.Exclusive.{no_fault}
use Rattle.litmus_reader.proofs.laws.no_fault.Goals as goal

pub returns : goal.returns
returns c = λ k f said x. no_fault c.args.bytes.now k f said x.0 x.1
