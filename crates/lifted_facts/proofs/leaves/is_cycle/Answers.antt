use Rattle.std.proofs.Common.{map}
use Rattle.pc_ground.specs.Keys.{key_node}
use Rattle.lifted_facts.{specs.PlainFacts.{plain_fact}, proofs.JoinedEdges.{cycle_closed, cycle_open}}
use Rattle.lifted_facts.proofs.leaves.is_cycle.Goals as goal

pub returns-in-Some : goal.returns-in-Some
returns-in-Some c =
    cycle_closed (map plain_fact c.args.facts.now) c.args.first c.args.more.now (key_node c.in-Some.from) (key_node c.in-Some.to)
    c.is_same.result c.in-Some.ensures c.is_same.ensures

pub returns-in-None : goal.returns-in-None
returns-in-None c = cycle_open (map plain_fact c.args.facts.now) c.args.first c.args.more.now c.in-None.ensures
