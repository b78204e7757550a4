-- What a model as written and the bytes of a test say together.
use Rattle.std.specs.Prelude.{◌≡◌, ℕ, List, None}
use Rattle.pc_common.specs.Case.{Case}
use Rattle.litmus_reader.specs.Answer.{CaseOf}
use Rattle.pc_syntax.specs.{Written.{WrittenModel}, ModelFault.{first_model_fault}}
use Rattle.pc_ground.specs.declared.parts.Parts.{Parts}
use Rattle.pc_front.specs.Front.{ArePartsOf}

-- the model has no fault, the bytes say a case, and these are their parts
pub record IsJudged (m : WrittenModel) (test : List ℕ) (parts : Parts) : Type 0 where
  pub no_fault : first_model_fault m ≡ None
  pub c : Case
  pub says_test : CaseOf test c
  pub parts_of : ArePartsOf m c parts.case parts.stages parts.axioms
