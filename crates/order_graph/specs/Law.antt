-- Two laws of lists of literals: what consistent ones generate, and that a clash leaves none.
use Rattle.std.specs.Prelude.{ℕ, List}
use Rattle.pc_common.specs.Chain.{Chain, Acyclic}
use Rattle.pc_ground.specs.{declared.literal.Literal.{Literal}, Literals.{Joins, IsPresent, IsConsistent, AreMet}}
use Rattle.order_graph.specs.{declared.clash.Clash.{Clash}, Clashes.{IsClash}}

-- the nodes that the literals assert, in the order of the chains of their edges, are a world where each literal is true
pub record GeneratesWorld {N : Type 0} (ls : List (Literal N)) : Type 0 where
  pub ends : (a b : N) → Chain (Joins ls) a b → IsPresent ls a × IsPresent ls b
  pub irreflexive : Acyclic (Joins ls)
  pub transitive : (a b c : N) → Chain (Joins ls) a b → Chain (Joins ls) b c → Chain (Joins ls) a c
  pub met : AreMet ls

abbrev pub ConsistentGenerate : Type 0
ConsistentGenerate = (ls : List (Literal ℕ)) → IsConsistent ls → GeneratesWorld ls

-- literals with a clash are not consistent
abbrev pub ClashesRefute : Type 0
ClashesRefute = (ls : List (Literal ℕ)) (k : Clash) → IsClash ls k → IsConsistent ls → ⊥
