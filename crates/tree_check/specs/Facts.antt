-- What is known on a branch of a tree, as a set of facts.
use Rattle.std.specs.{Prelude.{◌≡◌, ◌↔◌, ◌⊎◌, List, [], ◌∷◌, Option, Some, None, Contains, length, take}, List.{flat_map}}
use Rattle.pc_common.specs.World.{Node}
use Rattle.pc_ground.specs.{declared.row.RowKind.{RowKind, TheVariants.{True, False, Lit, And, Or}}, Tree.{Tree, always, never, leaf, both, either}}
use Rattle.pc_ground.specs.Refutes.{Signed, Branch, part_at}
use Rattle.refutation.specs.BranchFacts.{PlainBranchFact, at_position, edge, facts_of_literal}

-- what is known of an asserted position: what its literal says, and where it has none, that it is asserted
abbrev pub facts_of_part : Option (Tree Node) → Signed → List PlainBranchFact
facts_of_part None q = []
facts_of_part (Some always) q = at_position q ∷ []
facts_of_part (Some never) q = at_position q ∷ []
facts_of_part (Some (leaf l)) q = facts_of_literal l
facts_of_part (Some (both a b)) q = at_position q ∷ []
facts_of_part (Some (either a b)) q = at_position q ∷ []

abbrev pub facts_at : Tree Node → Signed → List PlainBranchFact
facts_at t q = facts_of_part (part_at t q) q

-- the same, by the kind of the row that stands there
abbrev pub facts_of_kind : Signed → RowKind Node → List PlainBranchFact
facts_of_kind q True = at_position q ∷ []
facts_of_kind q False = at_position q ∷ []
facts_of_kind q (Lit l) = facts_of_literal l
facts_of_kind q And = at_position q ∷ []
facts_of_kind q Or = at_position q ∷ []

-- all that is known where these positions are asserted
abbrev pub facts_on : Tree Node → Branch → List PlainBranchFact
facts_on t ps = flat_map (facts_at t) ps

-- these are the facts of the branch, in any order
abbrev pub HasFacts : Tree Node → List PlainBranchFact → Branch → Type 0
HasFacts t facts ps = (k : PlainBranchFact) → Contains facts k ↔ Contains (facts_on t ps) k

-- it is known that the first node happens before the second
abbrev pub HasEdge : List PlainBranchFact → Node → Node → Type 0
HasEdge facts a b = Contains facts (edge a b)

-- some facts were added to the old ones
pub record HasAdded (old more new : List PlainBranchFact) : Type 0 where
  -- the old ones come first
  pub same_first : take (length old) new ≡ old
  -- there are those and the further ones, and no others
  pub members : (k : PlainBranchFact) → Contains new k ↔ (Contains old k ⊎ Contains more k)
