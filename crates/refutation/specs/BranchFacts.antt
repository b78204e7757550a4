-- What can be known on a branch of a ground tree, for those who follow the steps of a refutation.
use Rattle.std.specs.Prelude.{List, [], ◌∷◌}
use Rattle.pc_common.specs.World.{Node}
use Rattle.pc_ground.specs.declared.literal.Literal.{Literal}
use Rattle.pc_ground.specs.declared.literal.Literal.TheVariants.{Node as a_node, Edge as an_edge, NoNode as not_node, NoEdge as not_edge}
use Rattle.pc_ground.specs.{Keys.{key_node}, Refutes.{Signed, signed}}
use Rattle.refutation.specs.declared.branch_fact.BranchFact.{BranchFact, TheVariants.{At, Edge, NoEdge, NoNode, Present}}

-- what can be known on a branch
pub data PlainBranchFact : Type 0 where
  -- the signed position is asserted, and has no literal
  at_position : Signed → PlainBranchFact
  -- the first node happens before the second
  edge : Node → Node → PlainBranchFact
  -- that is denied
  no_edge : Node → Node → PlainBranchFact
  -- the node is denied
  no_node : Node → PlainBranchFact
  -- the node is asserted, by itself or as an end of an edge
  present : Node → PlainBranchFact

-- what a literal says; an edge makes both of its ends present
abbrev pub facts_of_literal : Literal Node → List PlainBranchFact
facts_of_literal (a_node a) = present a ∷ []
facts_of_literal (an_edge a b) = edge a b ∷ present a ∷ present b ∷ []
facts_of_literal (not_node a) = no_node a ∷ []
facts_of_literal (not_edge a b) = no_edge a b ∷ []

-- a fact of the code, with its keys as plain nodes
abbrev pub plain_branch_fact : BranchFact → PlainBranchFact
plain_branch_fact (At negated p) = at_position (signed negated p)
plain_branch_fact (Edge a b) = edge (key_node a) (key_node b)
plain_branch_fact (NoEdge a b) = no_edge (key_node a) (key_node b)
plain_branch_fact (NoNode a) = no_node (key_node a)
plain_branch_fact (Present a) = present (key_node a)
