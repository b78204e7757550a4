-- Some things of a list, chosen by their places, which are counted from 0.
use Rattle.std.specs.{Prelude.{ℕ, zero, suc, ◌+◌, ◌<◌, ◌≤◌, ◌==◌, Bool, false, not, ◌&&◌, List, [], ◌∷◌, get_or, if◌then◌else◌}, List.{list_any}}

-- which places are chosen
abbrev pub Choice : Type 0
Choice = ℕ → Bool

-- the choice as it goes on after the first place
abbrev pub after_first : Choice → Choice
after_first keep k = keep (suc k)

-- the things at the chosen places, in order
abbrev pub taken : {X : Type 0} → Choice → List X → List X
taken keep [] = []
taken keep (x ∷ xs) = if keep zero then x ∷ taken (after_first keep) xs else taken (after_first keep) xs

-- the places of these numbers
abbrev pub among : List ℕ → Choice
among ks k = list_any (λ j. j == k) ks

-- all chosen places but this one
abbrev pub less : ℕ → Choice → Choice
less i keep k = keep k && not (k == i)

-- the places whose flags are set
abbrev pub flagged : List Bool → Choice
flagged flags k = get_or flags k false

-- the numbers rise, from `low` on and below `high`
abbrev pub AreRising : ℕ → ℕ → List ℕ → Type 0
AreRising low high [] = Unit {0}
AreRising low high (k ∷ ks) = (low ≤ k) × (k < high) × AreRising (k + 1) high ks
