use Rattle.std.proofs.Common.{map}
use Rattle.pc_ground.specs.Keys.{key_node}
use Rattle.lifted_facts.{specs.PlainFacts.{plain_fact}, proofs.NamedFacts.{absent_named, no_denial, no_asserted}}
use Rattle.lifted_facts.proofs.leaves.is_absent.Goals as goal

pub returns-in-Some-fact_at : goal.returns-in-Some-fact_at
returns-in-Some-fact_at c =
    absent_named (map plain_fact c.args.facts.now) c.args.denial c.args.number (key_node c.in-Some.a) (plain_fact c.in-Some-fact_at.fact.now) c.asserts.result
    c.in-Some.ensures c.in-Some-fact_at.ensures.is c.asserts.ensures

pub returns-in_default : goal.returns-in_default
returns-in_default c = no_denial (map plain_fact c.args.facts.now) c.args.denial c.args.number c.in_default.ensures

pub returns-in-None : goal.returns-in-None
returns-in-None c = no_asserted (map plain_fact c.args.facts.now) c.args.denial c.args.number c.in-None.ensures.is
