use Rattle.std.proofs.Common.{map}
use Rattle.lifted_facts.{specs.PlainFacts.{plain_fact}, proofs.NamedFacts.{part_named, no_fact}}
use Rattle.lifted_facts.proofs.named.part_at.Goals as goal

pub part-requires : goal.part-requires
part-requires c = c.in-Some.ensures.proper c.args.case.now c.requires

pub returns-in-Some-clause-is : goal.returns-in-Some-clause-is
returns-in-Some-clause-is c =
    part_named c.args.case.now (map plain_fact c.args.facts.now) c.args.way c.args.number (plain_fact c.in-Some.fact.now)
    c.part.result c.in-Some.ensures.is c.part.ensures.is

pub returns-in-None-clause-is : goal.returns-in-None-clause-is
returns-in-None-clause-is c = λ g h. no_fact (map plain_fact c.args.facts.now) c.args.number c.in-None.ensures.is h.0 h.1
