use Rattle.macro_expand.proofs.RenamedFaults.{size_faults_renamed}
use Rattle.macro_expand.proofs.laws.renaming_keeps_size_faults.Goals as goal

pub returns : goal.returns
returns c = size_faults_renamed
