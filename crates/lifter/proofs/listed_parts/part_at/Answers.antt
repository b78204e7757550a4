use Rattle.lifted_facts.specs.PlainFacts.{plain_fact}
use Rattle.lifter.proofs.PartWays.{member_is}
use Rattle.lifter.proofs.listed_parts.part_at.Goals as goal

pub returns-clause-member : goal.returns-clause-member
returns-clause-member c =
    member_is c.args.case.now c.args.fact.now _ c.way_at-way.result c.args.k (plain_fact c.in-Some.part) c.in-Said.is
    c.way_at-way.ensures c.requires.within c.in-Some.ensures.is
