-- What a subject can judge: lines that say unobservable first only where its ground tree is there.
use Rattle.std.specs.Prelude.{◌≡◌, ℕ, List, [], codes, Bool, true, false, Option, Some, None}
use Rattle.pc_common.specs.Lines.{Line}
use Rattle.cert_check.specs.{GraphBegins.{IsUnobservableFirst}, RawLines.{RawFirst, RawWhole}, Stages.{GoesOn, IsStuck}}
use Rattle.cert_check.specs.{Subjects.{question_of_subject, HasTree}, declared.{subject.Subject.{Subject}, stage.Stage.{Stage}}}

abbrev pub CanJudge : Subject → List (List ℕ) → Type 0
CanJudge s raws = IsUnobservableFirst raws → HasTree s

-- with some more they begin a certificate well, and can be judged
pub record JudgedFirst (s : Subject) (raws : List (List ℕ)) : Type 0 where
  pub begins : RawFirst (question_of_subject s) raws
  pub can : CanJudge s raws

-- they are a certificate, and can be judged
pub record JudgedWhole (s : Subject) (raws : List (List ℕ)) : Type 0 where
  pub whole : RawWhole (question_of_subject s) raws
  pub can : CanJudge s raws

-- the line after these can be judged
abbrev pub CanJudgeNext : Subject → List Line → List ℕ → Type 0
CanJudgeNext s lines text = lines ≡ [] → text ≡ codes "unobservable" → HasTree s

-- what the next line makes of a stage
abbrev pub Advances : Subject → List Line → List ℕ → Option Stage → Type 0
Advances s lines text None = CanJudgeNext s lines text → IsStuck (question_of_subject s) lines text
Advances s lines text (Some next) = CanJudgeNext s lines text × GoesOn (question_of_subject s) lines text next

-- what came of the next line: where it is good, the stage after it stands; else it is stuck
abbrev pub HasStepped : Subject → List Line → List ℕ → Stage → Bool → Type 0
HasStepped s lines text new true = CanJudgeNext s lines text × GoesOn (question_of_subject s) lines text new
HasStepped s lines text new false = CanJudgeNext s lines text → IsStuck (question_of_subject s) lines text
