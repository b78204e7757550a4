use Rattle.pattern_reader.proofs.Patterns.{pattern_or_fault_of}
use Rattle.pattern_reader.proofs.laws.pattern_or_fault.Goals as goal

pub returns : goal.returns
returns c = pattern_or_fault_of c.args.bytes.now
