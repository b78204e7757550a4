use Rattle.command_base.proofs.{TestForm.{test_form}, OneCase.{one_first_fault}}
use Rattle.command_base.proofs.laws.one_first_fault.Goals as goal

pub returns : goal.returns
returns c = one_first_fault test_form
