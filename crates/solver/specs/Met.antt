-- The truth of a tree in the world that a list of literals generates: the nodes that they assert, in the order of the chains of
-- their edges.
use Rattle.std.specs.Prelude.{List, ◌⊎◌, Bool, true, false}
use Rattle.pc_common.specs.Chain.{Chain}
use Rattle.pc_ground.specs.{declared.literal.Literal.{Literal}, Tree.{Tree, always, never, leaf, both, either}, Literals.{Joins, IsPresent, Holds}}

abbrev pub IsMet : {N : Type 0} → List (Literal N) → Tree N → Type 0
IsMet ls always = Unit {0}
IsMet ls never = ⊥
IsMet ls (leaf l) = Holds (IsPresent ls) (Chain (Joins ls)) l
IsMet ls (both a b) = IsMet ls a × IsMet ls b
IsMet ls (either a b) = IsMet ls a ⊎ IsMet ls b

-- under the sign `~` a tree is true where it is not met
abbrev pub IsMetUnder : {N : Type 0} → Bool → List (Literal N) → Tree N → Type 0
IsMetUnder false ls s = IsMet ls s
IsMetUnder true ls s = IsMet ls s → ⊥
