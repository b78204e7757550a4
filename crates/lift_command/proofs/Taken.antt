-- What a refutation is lifted from, and that its lifted text is taken.
use Rattle.std.proofs.Common.{◌≡◌, ◌<◌, List, ℕ, Option, Some, length}
use Rattle.pc_common.specs.{World.{Node}, Steps.{Step}, declared.limits.TheConstants.{MAX_CERTIFICATE}}
use Rattle.pc_ground.specs.{declared.{front.Front.{Front}, version.Version.TheVariants.{One as version_one}}, GroundTree.{closed_ground_tree}}
use Rattle.pc_ground.specs.{Refutes.{IsRefutation}, Stages.{plain_axioms}}
use Rattle.line_judge.specs.Texts.{IsMadeOf}
use Rattle.cert_check.specs.{Certificates.{Question}, Questions.{question_of}, Ones.{IsOne, refuted, one_too_long}}
use Rattle.cert_check.specs.declared.one.One.TheVariants.{Tree, Refused as refused_at}
use Rattle.lifted_check.specs.{LiftedTexts.{Question as LiftedQuestion, IsLiftedText}, Fed.{unseen}}
use Rattle.lift_command.specs.Lifts.{IsTaken}

pub tree_refutes : (front : Front) (text : List ℕ) (steps : List (Step Node)) → IsOne (question_of front) text (Tree steps)
    → IsRefutation version_one (closed_ground_tree front.case (plain_axioms front.axioms)) steps
tree_refutes front text steps (refuted ss short t) = t.refutes

pub is_taken : (l : LiftedQuestion) (text : List ℕ) → IsMadeOf (IsLiftedText l) text → IsTaken l text
is_taken l text made = record { lifted = made; taken = λ short. unseen short made }

-- a file past the limit
pub past_limit : (q : Question) {held : Option (List ℕ)} → (bytes : List ℕ) × (held ≡ Some bytes) × (MAX_CERTIFICATE < length bytes)
    → (bytes : List ℕ) × (held ≡ Some bytes) × IsOne q bytes (refused_at 0)
past_limit q large = (large.0, large.1, one_too_long large.2)
