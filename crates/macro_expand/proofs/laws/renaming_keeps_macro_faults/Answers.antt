use Rattle.macro_expand.proofs.RenamedFaults.{macro_faults_renamed}
use Rattle.macro_expand.proofs.laws.renaming_keeps_macro_faults.Goals as goal

pub returns : goal.returns
returns c = macro_faults_renamed
