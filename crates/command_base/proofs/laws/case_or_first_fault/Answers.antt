use Rattle.command_base.proofs.{TestForm.{test_form}, OneCase.{case_or_first_fault}}
use Rattle.command_base.proofs.laws.case_or_first_fault.Goals as goal

pub returns : goal.returns
returns c = case_or_first_fault test_form
