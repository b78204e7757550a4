use Rattle.std.proofs.{Common.{◌++◌, ◌∷◌, [], sym, ◌∙◌, arith}, lemmas.Result.{on_ok_weaker}}
use Rattle.lifted_facts.specs.{Lifted.{close, falsity}, PlainFacts.{plain_fact}}
use Rattle.lifter.proofs.{SideLaws.{sides_rank, part_rank}, ClosedFacts.{closed_by_falsity, closed_by_sides, closed_by_part, sides_false, parts_false}}
use Rattle.lifter.proofs.RunsMore.{pushed}
use Rattle.lifter.proofs.closing.+close.Goals as goal

-- the first side, and then the second one
pub close-requires : goal.close-requires
close-requires t c =
    let case = c.args.case.now in let f = plain_fact c.args.fact.now in let g = plain_fact c.in-Some.first in
    let h = plain_fact c.in-Some.second in
    let low = (sides_rank case f g h (sym c.in-Some.ensures.is)).0 in
    (omega (arith, c.decreases, low), (c.in-Some.ensures.proper.0, (sides_false case f g h (sym c.in-Some.ensures.is) c.requires.kind).0))

pub close-requires-in-Some : goal.close-requires-in-Some
close-requires-in-Some t c =
    let case = c.args.case.now in let f = plain_fact c.args.fact.now in let g = plain_fact c.in-Some.first in
    let h = plain_fact c.in-Some.second in
    let low = (sides_rank case f g h (sym c.in-Some.ensures.is)).1 in
    (omega (arith, c.decreases, low), (c.in-Some.ensures.proper.1, (sides_false case f g h (sym c.in-Some.ensures.is) c.requires.kind).1))

-- the fact is False by itself
pub returns-then-is_false : goal.returns-then-is_false
returns-then-is_false t c =
    let old = c.args.steps.now in
    pushed c.push.result c.push.new.self (old ++ close (falsity c.args.number) ∷ []) old c.push.ensures
    (λ is. closed_by_falsity c.args.case.now (plain_fact c.args.fact.now) c.args.number c.args.count old c.push.new.self
    (sym c.is_false.ensures ∙ c.if-is_false.true) is)

-- by its sides
pub returns-in_ok-close-in-Some : goal.returns-in_ok-close-in-Some
returns-in_ok-close-in-Some t c =
    let f = plain_fact c.args.fact.now in let g = plain_fact c.in-Some.first in let h = plain_fact c.in-Some.second in
    on_ok_weaker c.close-in-Some.result
    (λ last. closed_by_sides c.args.case.now f g h c.args.number c.args.count c.in_ok-more.more c.args.steps.now c.push-in-Some.new.self c.close.new.steps
    c.close-in-Some.new.steps
    (sym c.in-Some.ensures.is) c.in_ok-more.ensures c.in_ok-push-in-Some.ensures c.in_ok-close-in-Some.ensures last) c.close-in-Some.ensures

-- by a part
pub false_part-named-requires : goal.false_part-named-requires
false_part-named-requires t c =
    record {
      proper = c.requires.proper;
      kind = parts_false c.args.case.now c.args.fact.now (sym c.in-None.ensures.is) (sym c.is_false.ensures ∙ c.if-is_false.false) c.requires.kind;
    }

pub close-requires-in-None : goal.close-requires-in-None
close-requires-in-None t c =
    let low = part_rank c.args.case.now c.false_part-named.result.0 (plain_fact c.args.fact.now) (plain_fact c.false_part-named.result.1)
    c.false_part-named.ensures.is in
    (omega (arith, c.decreases, low), (c.false_part-named.ensures.proper, c.false_part-named.ensures.kind))

pub returns-in_ok-push-in-None : goal.returns-in_ok-push-in-None
returns-in_ok-push-in-None t c =
    let f = plain_fact c.args.fact.now in let g = plain_fact c.false_part-named.result.1 in
    on_ok_weaker c.close-in-None.result
    (λ rest. closed_by_part c.args.case.now f g c.false_part-named.result.0 c.args.number c.args.count c.in_ok-more.more c.args.steps.now
    c.push-in-None.new.self c.close-in-None.new.steps
    c.false_part-named.ensures.is c.in_ok-more.ensures c.in_ok-push-in-None.ensures rest) c.close-in-None.ensures
