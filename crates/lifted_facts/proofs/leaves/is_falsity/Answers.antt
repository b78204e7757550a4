use Rattle.std.proofs.Common.{map}
use Rattle.lifted_facts.{specs.PlainFacts.{plain_fact}, proofs.NamedFacts.{false_named, no_falsity}}
use Rattle.lifted_facts.proofs.leaves.is_falsity.Goals as goal

pub is_false-requires : goal.is_false-requires
is_false-requires c = c.in-Some.ensures.proper c.args.case.now c.requires

pub returns-in-Some : goal.returns-in-Some
returns-in-Some c =
    false_named c.args.case.now (map plain_fact c.args.facts.now) c.args.number (plain_fact c.in-Some.fact.now)
    c.is_false.result c.in-Some.ensures.is c.is_false.ensures

pub returns-in-None : goal.returns-in-None
returns-in-None c = no_falsity c.args.case.now (map plain_fact c.args.facts.now) c.args.number c.in-None.ensures.is
