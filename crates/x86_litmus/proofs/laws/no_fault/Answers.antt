use Rattle.x86_litmus.proofs.OneReading.{no_fault}
use Rattle.x86_litmus.proofs.laws.no_fault.Goals as goal

pub returns : goal.returns
returns c = λ case fault said is. no_fault c.args.bytes.now case fault said is.0 is.1
