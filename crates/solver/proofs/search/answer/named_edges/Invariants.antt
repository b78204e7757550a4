use Rattle.std.proofs.Common.{◌≡◌, map, take}
use Rattle.graph_text.specs.Graphs.{key_edge}
use Rattle.solver.specs.Shown.{edge_over}
use Rattle.solver.proofs.search.answer.named_edges.Given as goal

abbrev pub invariant-loop-pair : goal.invariant-loop-pair
invariant-loop-pair l = map key_edge l.edges ≡ map (edge_over l.tree.nodes) (take l.pair-index l.pairs)
