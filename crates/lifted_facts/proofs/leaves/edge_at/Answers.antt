use Rattle.std.proofs.Common.{map, Some}
use Rattle.pc_ground.specs.{Keys.{key_node}, declared.node_key.NodeKey.{NodeKey}}
use Rattle.lifted_facts.{specs.PlainFacts.{plain_fact, one_edge}, proofs.NamedFacts.{edge_named, no_fact}}
use Rattle.lifted_facts.proofs.leaves.edge_at.Goals as goal

pub returns-in-Some : goal.returns-in-Some
returns-in-Some c =
    edge_named (λ (e : NodeKey × NodeKey). key_node e.0) (λ (e : NodeKey × NodeKey). key_node e.1) (map plain_fact c.args.facts.now) c.args.plus c.args.number
    (plain_fact c.in-Some.fact.now) c.edge_of.result c.in-Some.ensures.is c.edge_of.ensures

pub returns-in-None : goal.returns-in-None
returns-in-None c = λ x y h. no_fact (map plain_fact c.args.facts.now) c.args.number c.in-None.ensures.is (one_edge c.args.plus (Some x) (Some y)) h
