use Rattle.std.proofs.Common.{map}
use Rattle.lifted_facts.{specs.PlainFacts.{plain_fact}, proofs.NamedFacts.{sides_named, no_fact}}
use Rattle.lifted_facts.proofs.named.sides_at.Goals as goal

pub sides-requires : goal.sides-requires
sides-requires c = c.in-Some.ensures.proper c.args.case.now c.requires

pub returns-in-Some-clause-is : goal.returns-in-Some-clause-is
returns-in-Some-clause-is c =
    sides_named c.args.case.now (map plain_fact c.args.facts.now) c.args.number (plain_fact c.in-Some.fact.now) c.sides.result
    c.in-Some.ensures.is c.sides.ensures.is

pub returns-in-None-clause-is : goal.returns-in-None-clause-is
returns-in-None-clause-is c = λ g h s. no_fact (map plain_fact c.args.facts.now) c.args.number c.in-None.ensures.is s.0 s.1
