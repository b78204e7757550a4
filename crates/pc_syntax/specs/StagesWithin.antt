-- Which stages a closed formula names.
use Rattle.std.specs.{Prelude.{ℕ, List, [], ◌∷◌, ◌==◌, IsTrue}, List.{list_any}}
use Rattle.pc_syntax.specs.declared.closed_term.{ClosedNode.{ClosedNode}, ClosedEdge.{ClosedEdge}}
use Rattle.pc_syntax.specs.Closed.{PlainClosed, closed_not, closed_and, closed_or, closed_implies, closed_forall, closed_exists, closed_static, closed_nodes, closed_edges, closed_bind}

-- the number is one of these
abbrev pub IsAmong : List ℕ → ℕ → Type 0
IsAmong numbers k = IsTrue (list_any (λ n. n == k) numbers)

abbrev pub NodesWithin : List ℕ → List ClosedNode → Type 0
NodesWithin numbers [] = Unit {0}
NodesWithin numbers (t ∷ ts) = IsAmong numbers t.stage × NodesWithin numbers ts

abbrev pub EdgesWithin : List ℕ → List ClosedEdge → Type 0
EdgesWithin numbers [] = Unit {0}
EdgesWithin numbers (t ∷ ts) = IsAmong numbers t.from.stage × IsAmong numbers t.to.stage × EdgesWithin numbers ts

-- each stage of the formula has one of these numbers
abbrev pub StagesWithin : List ℕ → PlainClosed → Type 0
StagesWithin numbers (closed_not p) = StagesWithin numbers p
StagesWithin numbers (closed_and p q) = StagesWithin numbers p × StagesWithin numbers q
StagesWithin numbers (closed_or p q) = StagesWithin numbers p × StagesWithin numbers q
StagesWithin numbers (closed_implies p q) = StagesWithin numbers p × StagesWithin numbers q
StagesWithin numbers (closed_forall sort p) = StagesWithin numbers p
StagesWithin numbers (closed_exists sort p) = StagesWithin numbers p
StagesWithin numbers (closed_static pred args) = Unit {0}
StagesWithin numbers (closed_nodes ts) = NodesWithin numbers ts
StagesWithin numbers (closed_edges ts) = EdgesWithin numbers ts
StagesWithin numbers (closed_bind args p) = StagesWithin numbers p
