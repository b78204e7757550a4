-- How far a search is from its end.
use Rattle.std.specs.{Prelude.{ℕ, ◌+◌, ◌^◌, Bool, true, false, not, ◌||◌, ◌==◌, List, [], ◌∷◌, sum_by, if◌then◌else◌}, List.{list_any}}
use Rattle.pc_ground.specs.{Tree.{Tree, always, never, leaf, both, either, turned, size_of}, Refutes.{Branch}}

-- the sign is this one
abbrev pub is_sign : Bool → Bool → Bool
is_sign false n = not n
is_sign true n = n

-- the positions of a branch under this sign
abbrev pub under : Bool → Branch → List ℕ
under n [] = []
under n (q ∷ ps) = if is_sign n q.negated then q.position ∷ under n ps else under n ps

-- the position is among these
abbrev pub is_on : List ℕ → ℕ → Bool
is_on ps p = list_any (λ q. q == p) ps

-- how many Ors of a tree, whose root stands at p, have no side among these positions
abbrev pub pending_ors : {N : Type 0} → Tree N → ℕ → List ℕ → ℕ
pending_ors always p ps = 0
pending_ors never p ps = 0
pending_ors (leaf l) p ps = 0
pending_ors (both a b) p ps = pending_ors a (p + 1) ps + pending_ors b (p + 1 + size_of a) ps
pending_ors (either a b) p ps =
    (if is_on ps (p + 1) || is_on ps (p + 1 + size_of a) then 0 else 1)
    + (pending_ors a (p + 1) ps + pending_ors b (p + 1 + size_of a) ps)

-- how many Ors of the tree and of its negation have no side on the branch
abbrev pub pending_splits : {N : Type 0} → Tree N → Branch → ℕ
pending_splits t ps = pending_ors (turned false t) 0 (under false ps) + pending_ors (turned true t) 0 (under true ps)

-- a split puts two branches with fewer such Ors in the place of one, so the sum of these powers falls
unfoldable pub weight : {N : Type 0} → Tree N → List Branch → ℕ
weight t opens = sum_by (λ ps. 3 ^ pending_splits t ps) opens
