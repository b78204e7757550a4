-- Lists of literals over nodes of any kind: what they assert and deny, and when they can stand together.
use Rattle.std.specs.Prelude.{List, Contains}
use Rattle.pc_common.specs.Chain.{Chain, Acyclic}
use Rattle.pc_ground.specs.declared.literal.Literal.{Literal, TheVariants.{Node, Edge, NoNode, NoEdge}}

-- the edge from a to b is asserted
abbrev pub Joins : {N : Type 0} → List (Literal N) → N → N → Type 0
Joins ls a b = Contains ls (Edge a b)

-- the node is asserted, by itself or as an end of an edge
pub data IsPresent {N : Type 0} (ls : List (Literal N)) (a : N) : Type 0 where
  as_node : Contains ls (Node a) → IsPresent ls a
  as_start : (b : N) → Contains ls (Edge a b) → IsPresent ls a
  as_end : (b : N) → Contains ls (Edge b a) → IsPresent ls a

pub record IsConsistent {N : Type 0} (ls : List (Literal N)) : Type 0 where
  -- no node has a chain of asserted edges to itself
  pub acyclic : Acyclic (Joins ls)
  -- no denied pair is joined by a chain
  pub apart : (a b : N) → Contains ls (NoEdge a b) → Chain (Joins ls) a b → ⊥
  -- no denied node is present
  pub missing : (a : N) → Contains ls (NoNode a) → IsPresent ls a → ⊥

-- the truth of a literal, where `has` says which nodes there are and `before` which pairs are in order
abbrev pub Holds : {N : Type 0} → (N → Type 0) → (N → N → Type 0) → Literal N → Type 0
Holds has before (Node a) = has a
Holds has before (Edge a b) = before a b
Holds has before (NoNode a) = has a → ⊥
Holds has before (NoEdge a b) = before a b → ⊥

-- each literal is true where just the nodes that the literals assert are there, in the order of the chains of their
-- edges
abbrev pub AreMet : {N : Type 0} → List (Literal N) → Type 0
AreMet {N} ls = (l : Literal N) → Contains ls l → Holds (IsPresent ls) (Chain (Joins ls)) l
