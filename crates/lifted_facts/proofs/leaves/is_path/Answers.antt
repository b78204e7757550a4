use Rattle.std.proofs.Common.{map}
use Rattle.pc_ground.specs.Keys.{key_node}
use Rattle.lifted_facts.{specs.PlainFacts.{plain_fact}, proofs.JoinedEdges.{path_closed, no_joined}}
use Rattle.lifted_facts.proofs.leaves.is_path.Goals as goal

pub returns-then-is_same : goal.returns-then-is_same
returns-then-is_same c =
    path_closed (map plain_fact c.args.facts.now) c.args.first c.args.more.now c.args.denial (key_node c.in-Some.from) (key_node c.in-Some.to)
    (key_node c.in-Some-edge_at.start) (key_node c.in-Some-edge_at.end) c.is_same.result c.is_same-then-is_same.result
    c.in-Some.ensures c.in-Some-edge_at.ensures c.is_same.ensures
    c.if-is_same.true c.is_same-then-is_same.ensures

pub returns-in_default : goal.returns-in_default
returns-in_default c = no_joined (map plain_fact c.args.facts.now) c.args.first c.args.more.now c.args.denial c.in_default.ensures
