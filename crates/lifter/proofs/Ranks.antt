-- A number that is lower for each part and each side of a fact.
use Rattle.std.specs.Prelude.{ℕ, ◌+◌, ◌-◌, true, false, length}
use Rattle.pc_common.specs.Case.{Case}
use Rattle.pc_syntax.specs.Truth.{range_of}
use Rattle.pc_syntax.specs.Closed.{PlainClosed, closed_not, closed_and, closed_or, closed_implies, closed_forall, closed_exists, closed_static, closed_nodes, closed_edges, closed_bind}
use Rattle.lifted_facts.specs.PlainFacts.{PlainFact, said, one_node, one_edge}

abbrev pub weight : Case → PlainClosed → ℕ
weight c (closed_not p) = weight c p + 1
weight c (closed_and p q) = weight c p + weight c q + 1
weight c (closed_or p q) = weight c p + weight c q + 1
weight c (closed_implies p q) = weight c p + weight c q + 1
weight c (closed_forall sort p) = weight c p + length (range_of c sort) + 1
weight c (closed_exists sort p) = weight c p + length (range_of c sort) + 1
weight c (closed_static pred args) = 1
weight c (closed_nodes ts) = length ts + 1
weight c (closed_edges ts) = length ts + 1
weight c (closed_bind args p) = weight c p + 1

abbrev pub rank : Case → PlainFact → ℕ
rank c (said true (closed_exists sort p) slots s) = weight c p + (length (range_of c sort) - s) + 1
rank c (said false (closed_forall sort p) slots s) = weight c p + (length (range_of c sort) - s) + 1
rank c (said false (closed_nodes ts) slots s) = length ts - s + 1
rank c (said false (closed_edges ts) slots s) = length ts - s + 1
rank c (said plus p slots s) = weight c p
rank c (one_node plus a) = 0
rank c (one_edge plus a b) = 0
