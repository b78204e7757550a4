use Rattle.x86_litmus.proofs.OneReading.{one_case}
use Rattle.x86_litmus.proofs.laws.one_case.Goals as goal

pub returns : goal.returns
returns c = one_case c.args.bytes.now
