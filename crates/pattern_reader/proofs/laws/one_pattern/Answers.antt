use Rattle.pattern_reader.proofs.Patterns.{one_pattern_of}
use Rattle.pattern_reader.proofs.laws.one_pattern.Goals as goal

pub returns : goal.returns
returns c = one_pattern_of c.args.bytes.now
