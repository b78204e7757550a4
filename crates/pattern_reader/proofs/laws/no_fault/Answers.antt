use Rattle.pattern_reader.proofs.Patterns.{no_fault_beside}
use Rattle.pattern_reader.proofs.laws.no_fault.Goals as goal

pub returns : goal.returns
returns c = no_fault_beside c.args.bytes.now
