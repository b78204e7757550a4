use Rattle.std.{proofs.Common.{map, drop}, specs.Prelude.{◌↔◌}}
use Rattle.pc_common.specs.Chain.{Leads}
use Rattle.pc_ground.specs.Keys.{key_node}
use Rattle.tree_check.specs.Facts.{HasEdge}
use Rattle.tree_check.proofs.closing.are_joined.Given as goal

abbrev pub invariant-loop-next : goal.invariant-loop-next
invariant-loop-next l = record {
  rest : Leads (HasEdge l.facts) (key_node l.at) (map key_node (drop l.next-index l.via)) (key_node l.to)
      ↔ Leads (HasEdge l.facts) (key_node l.fn.from) (map key_node l.via) (key_node l.to);
}
