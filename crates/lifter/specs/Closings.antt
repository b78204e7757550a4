-- Steps that close a branch by one of its facts.
use Rattle.std.specs.Prelude.{ℕ, ◌≡◌, List, ◌∷◌, length}
use Rattle.pc_common.specs.Case.{Case}
use Rattle.lifted_facts.specs.{PlainFacts.{PlainFact, Branch}, Lifted.{LiftedStep, HasFact, Runs}}

-- the steps that came to the old ones close each branch of n facts whose k-th fact is this
abbrev pub HasClosed : Case → PlainFact → ℕ → ℕ → List LiftedStep → List LiftedStep → Type 0
HasClosed c f k n old new =
    (start : List Branch) (b : Branch) (opens : List Branch)
    → length b ≡ n → HasFact b k f → Runs c old start (b ∷ opens) → Runs c new start opens
