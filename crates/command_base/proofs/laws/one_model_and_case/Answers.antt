use Rattle.command_base.proofs.{TestForm.{test_form}, OneCase.{one_said}}
use Rattle.command_base.proofs.laws.one_model_and_case.Goals as goal

pub returns : goal.returns
returns c = one_said test_form
