use Rattle.litmus_reader.proofs.Exclusive.{one_case}
use Rattle.litmus_reader.proofs.laws.one_case.Goals as goal

pub returns : goal.returns
returns c = one_case c.args.bytes.now
