-- The edges that are left lead from here where all of them lead from the start.
use Rattle.std.{proofs.Common.{map, drop}, specs.Prelude.{◌↔◌}}
use Rattle.pc_common.specs.World.{Node}
use Rattle.pc_ground.specs.Keys.{key_node}
use Rattle.lifted_facts.specs.{PlainFacts.{plain_fact}, Lifted.{Follows}}
use Rattle.lifted_facts.proofs.leaves.end_of.Given as goal

abbrev pub invariant-loop-number : goal.invariant-loop-number
invariant-loop-number l = record {
  rest : (y : Node) → Follows (map plain_fact l.facts) (key_node l.at) (drop l.number-index l.edges) y
      ↔ Follows (map plain_fact l.facts) (key_node l.fn.from) l.edges y;
}
