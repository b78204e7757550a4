-- Chains of a relation: from one thing to another by at least one step.
use Rattle.std.specs.Prelude.{List, [], ◌∷◌, ◌⊎◌, ◌≡◌}

-- each step of the way from a over the listed things to b is in R
abbrev pub Leads : {N : Type 0} → (N → N → Type 0) → N → List N → N → Type 0
Leads R a [] b = R a b
Leads R a (x ∷ xs) b = R a x × Leads R x xs b

abbrev pub Chain : {N : Type 0} → (N → N → Type 0) → N → N → Type 0
Chain {N} R a b = (via : List N) × Leads R a via b

-- the same thing, or one that a chain leads to
abbrev pub Reach : {N : Type 0} → (N → N → Type 0) → N → N → Type 0
Reach R a b = (a ≡ b) ⊎ Chain R a b

-- no thing has a chain to itself
abbrev pub Acyclic : {N : Type 0} → (N → N → Type 0) → Type 0
Acyclic {N} R = (a : N) → Chain R a a → ⊥
