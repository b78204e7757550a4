use Rattle.std.proofs.Common.{map, Some, false}
use Rattle.pc_ground.specs.Keys.{key_node}
use Rattle.lifted_facts.{specs.PlainFacts.{plain_fact, one_node}, proofs.NamedFacts.{denied_named, no_fact}}
use Rattle.lifted_facts.proofs.leaves.denied_at.Goals as goal

pub returns-in-Some : goal.returns-in-Some
returns-in-Some c =
    denied_named key_node (map plain_fact c.args.facts.now) c.args.number (plain_fact c.in-Some.fact.now) c.denied_of.result
    c.in-Some.ensures.is c.denied_of.ensures

pub returns-in-None : goal.returns-in-None
returns-in-None c = λ a h. no_fact (map plain_fact c.args.facts.now) c.args.number c.in-None.ensures.is (one_node false (Some a)) h
