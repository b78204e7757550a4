-- What the facts of a branch say of each kind of leaf.
use Rattle.std.specs.Prelude.{◌≡◌, List, [], ◌∷◌, ◌++◌, Contains}
use Rattle.pc_common.specs.{World.{Node}, Chain.{Leads}}
use Rattle.refutation.specs.BranchFacts.{PlainBranchFact, no_edge, no_node, present}
use Rattle.tree_check.specs.Facts.{HasEdge}

-- each node has an edge to the next one, and the last to the first
abbrev pub IsCycle : List PlainBranchFact → List Node → Type 0
IsCycle facts [] = ⊥
IsCycle facts (a ∷ via) = Leads (HasEdge facts) a via a

-- each node has an edge to the next one, and the pair of the first and the last is denied
pub record IsPath (facts : List PlainBranchFact) (nodes : List Node) : Type 0 where
  pub first : Node
  pub via : List Node
  pub last : Node
  pub all : nodes ≡ first ∷ (via ++ last ∷ [])
  pub leads : Leads (HasEdge facts) first via last
  pub apart : Contains facts (no_edge first last)

-- the node is denied and present
abbrev pub IsAbsent : List PlainBranchFact → Node → Type 0
IsAbsent facts a = Contains facts (no_node a) × Contains facts (present a)
