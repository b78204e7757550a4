use Rattle.std.proofs.Common.{◌≤◌, length, vec_capacity}
use Rattle.order_graph.specs.Levels.{AreLists}
use Rattle.order_graph.proofs.chain.edge_lists.Given as goal

abbrev pub invariant-loop-literal : goal.invariant-loop-literal
invariant-loop-literal l = record {
  lists : AreLists l.literals l.nodes l.literal-index l.heads.items l.links.items;
  room : length l.literals ≤ vec_capacity l.links;
}
