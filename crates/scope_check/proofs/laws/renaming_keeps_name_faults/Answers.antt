-- What a renaming keeps of a model's faults.
use Rattle.scope_check.proofs.RenamedFaults.{first_faults_kept}
use Rattle.scope_check.proofs.laws.renaming_keeps_name_faults.Goals as goal

pub returns-clause-models : goal.returns-clause-models
returns-clause-models c = first_faults_kept
