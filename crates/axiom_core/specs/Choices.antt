-- The choice that the search goes by: flags, and one place more that is left out.
use Rattle.std.specs.Prelude.{ℕ, zero, suc, ◌≡◌, ◌<◌, Bool, true, false, List, [], ◌∷◌, ◌++◌, Option, Some, None, length, IsTrue, if◌then◌else◌}
use Rattle.pc_common.specs.Case.{Case}
use Rattle.pc_syntax.specs.Closed.{PlainClosed}
use Rattle.solver.specs.declared.search.answer.Answer.{Answer, TheVariants.{Observable, Unobservable}}
use Rattle.axiom_core.specs.{Chosen.{Choice, taken, less, flagged}, Cores.{Allow, Forbid}}

-- the places whose flags are set, but for the one that is left out
abbrev pub choice : List Bool → Option ℕ → Choice
choice flags None = flagged flags
choice flags (Some i) = less i (flagged flags)

-- the chosen places below n, in order
abbrev pub places : Choice → ℕ → List ℕ
places keep zero = []
places keep (suc n) = places keep n ++ (if keep n then n ∷ [] else [])

abbrev pub is_refutation : Answer → Bool
is_refutation (Observable graph) = false
is_refutation (Unobservable steps) = true

-- the flagged axioms forbid, and without any one of those before i the others allow
pub record IsTried (c : Case) (ps : List PlainClosed) (flags : List Bool) (i : ℕ) : Type 0 where
  pub size : length flags ≡ length ps
  pub forbidden : Forbid c (taken (flagged flags) ps)
  pub needed : (k : ℕ) → k < i → IsTrue (flagged flags k) → Allow c (taken (less k (flagged flags)) ps)
