use Rattle.x86_litmus.proofs.OneFault.{one_fault}
use Rattle.x86_litmus.proofs.laws.one_fault.Goals as goal

pub returns : goal.returns
returns c = λ e f x y. one_fault c.args.bytes.now e f x.0 y.0 x.1 y.1
