use Rattle.command_base.proofs.{TestForm.{test_form}, OneCase.{no_fault_said}}
use Rattle.command_base.proofs.laws.no_first_fault.Goals as goal

pub returns : goal.returns
returns c = no_fault_said test_form
