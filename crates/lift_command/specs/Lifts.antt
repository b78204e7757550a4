-- What a certificate is made into.
use Rattle.std.specs.Prelude.{◌≤◌, ℕ, List, length}
use Rattle.pc_common.specs.{World.{Node}, Steps.{Step}, declared.limits.TheConstants.{MAX_CERTIFICATE}}
use Rattle.line_judge.specs.Texts.{IsMadeOf}
use Rattle.cert_check.specs.{Certificates.{Question}, Ones.{IsOne}, declared.one.One.TheVariants.{Graph, Tree, Refused as refused_at}}
use Rattle.lifted_check.specs.{LiftedTexts.{Question as LiftedQuestion, IsLiftedText}, Fed.{IsFound}, declared.lifted.Lifted.TheVariants.{Unobservable}}
use Rattle.lift_command.specs.declared.lifting.FoundLift.{FoundLift, TheVariants.{Observable, Text, Refused}}

-- the text of a lifted refutation, which its checker takes where it is within the limit
pub record IsTaken (l : LiftedQuestion) (text : List ℕ) : Type 0 where
  pub lifted : IsMadeOf (IsLiftedText l) text
  pub taken : length text ≤ MAX_CERTIFICATE → IsFound l text Unobservable

-- by the rules of version 1 the bytes are a graph that holds, or a refutation, of which the lifted text is made, or
-- refused at this line; l asks of the closed axioms what q asks of the ground tree
abbrev pub IsLiftOf : Question → LiftedQuestion → List ℕ → FoundLift → Type 0
IsLiftOf q l bytes Observable = IsOne q bytes Graph
IsLiftOf q l bytes (Text text) = (steps : List (Step Node)) × IsOne q bytes (Tree steps) × IsTaken l text.items
IsLiftOf q l bytes (Refused n) = IsOne q bytes (refused_at n)
