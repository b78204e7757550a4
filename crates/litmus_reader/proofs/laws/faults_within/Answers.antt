use Rattle.litmus_reader.proofs.Within.{fault_within}
use Rattle.litmus_reader.proofs.laws.faults_within.Goals as goal

pub returns : goal.returns
returns c = λ f x. fault_within c.args.bytes.now f x.1
