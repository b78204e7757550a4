-- A node is a micro-op at a stage of a core; a world is finitely many nodes with a strict order.
use Rattle.std.specs.{Prelude.{ℕ, Bool, List, ◌&&◌, ◌==◌, Contains}, List.{list_any}}

-- micro-op (its place in test order, from 0), core (0 to 63), stage (its number)
pub record Node : Type 0 where
  pub op : ℕ
  pub core : ℕ
  pub stage : ℕ

abbrev pub Edge : Type 0
Edge = Node × Node

abbrev pub same_node : Node → Node → Bool
same_node a b = (a.op == b.op) && (a.core == b.core) && (a.stage == b.stage)

abbrev pub same_edge : Edge → Edge → Bool
same_edge e f = same_node e.0 f.0 && same_node e.1 f.1

-- finitely many things, with pairs of them: the first happens before the second
pub record World (N : Type 0) : Type 0 where
  pub nodes : List N
  pub order : List (N × N)

abbrev pub has_node : World Node → Node → Bool
has_node w a = list_any (λ b. same_node b a) w.nodes

abbrev pub has_edge : World Node → Node → Node → Bool
has_edge w a b = list_any (λ e. same_edge e (a, b)) w.order

-- the order is strict, and on the world's nodes
pub record IsWorld {N : Type 0} (w : World N) : Type 0 where
  pub ends : (a b : N) → Contains w.order (a, b) → Contains w.nodes a × Contains w.nodes b
  pub irreflexive : (a : N) → Contains w.order (a, a) → ⊥
  pub transitive : (a b c : N) → Contains w.order (a, b) → Contains w.order (b, c) → Contains w.order (a, c)
