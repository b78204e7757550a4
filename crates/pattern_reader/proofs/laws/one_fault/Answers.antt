use Rattle.pattern_reader.proofs.Patterns.{one_fault_of}
use Rattle.pattern_reader.proofs.laws.one_fault.Goals as goal

pub returns : goal.returns
returns c = one_fault_of c.args.bytes.now
