-- The first fault of a list of tokens, against any statement of what its texts are.
use Rattle.std.specs.Prelude.{◌≡◌, ◌≢◌, ◌⊎◌, ◌+◌, ◌<◌, ◌≤◌, ℕ, Bool, List, Option, Some, None, length, take}
use Rattle.ll_grammar.specs.{Texts.{IsText, IsViable, IsDeepAt, NoneDeep}, declared.fault.Fault.{Fault, TheVariants.{Syntax, Depth}}}

-- Some text begins with the tokens before k, and none with those through k.
-- The end of the tokens counts as one more token.
pub record IsFaultAt {C : Type 0} (Text : List C → Type 0) (cs : List C) (k : ℕ) : Type 0 where
  pub within : k ≤ length cs
  pub before : IsViable Text (take k cs)
  pub through : k < length cs → IsViable Text (take (k + 1) cs) → ⊥
  pub at_end : k ≡ length cs → Text cs → ⊥

-- A text, and no token of it stands too deep.
abbrev pub IsAccepted : {C : Type 0} → (List C → List Bool → Type 0) → List C → Type 0
IsAccepted Marked cs = IsText Marked cs × NoneDeep Marked cs (length cs)

-- The fault, and none before it.
abbrev pub IsFirstTokenFault : {C : Type 0} → (List C → List Bool → Type 0) → List C → Fault → Type 0
IsFirstTokenFault Marked cs (Syntax k) = IsFaultAt (IsText Marked) cs k × NoneDeep Marked cs k
IsFirstTokenFault Marked cs (Depth k) = IsDeepAt Marked cs k × NoneDeep Marked cs k

-- What is to be answered: None for accepted tokens, else their first fault.
abbrev pub IsAnswer : {C : Type 0} → (List C → List Bool → Type 0) → List C → Option Fault → Type 0
IsAnswer Marked cs None = IsAccepted Marked cs
IsAnswer Marked cs (Some fault) = IsFirstTokenFault Marked cs fault

-- The same where no token can be too deep: None for a text, else the place of its fault.
abbrev pub IsSyntaxAnswer : {C : Type 0} → (List C → Type 0) → List C → Option ℕ → Type 0
IsSyntaxAnswer Text cs None = Text cs
IsSyntaxAnswer Text cs (Some k) = IsFaultAt Text cs k

-- The place of a fault.
abbrev pub fault_place : Option Fault → Option ℕ
fault_place None = None
fault_place (Some (Syntax k)) = Some k
fault_place (Some (Depth k)) = Some k

-- Each two are one or are not.
abbrev pub AreDecided : Type 0 → Type 0
AreDecided C = (a b : C) → (a ≡ b) ⊎ (a ≢ b)

-- The tokens are accepted or have a first fault.
abbrev pub HasAnswer : {C : Type 0} → (List C → List Bool → Type 0) → List C → Type 0
HasAnswer Marked cs = (found : Option Fault) × IsAnswer Marked cs found

-- And no two of these.
abbrev pub HasOneAnswer : {C : Type 0} → (List C → List Bool → Type 0) → List C → Type 0
HasOneAnswer Marked cs = (a b : Option Fault) → IsAnswer Marked cs a → IsAnswer Marked cs b → a ≡ b
