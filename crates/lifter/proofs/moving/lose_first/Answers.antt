use Rattle.std.proofs.Common.{◌≡◌, length, refl, arith}
use Rattle.lifted_facts.specs.PlainFacts.{plain_fact}
use Rattle.lifter.{specs.declared.state.State.{State}, proofs.StateMoves.{lost_first}}
use Rattle.lifter.proofs.moving.lose_first.Goals as goal

pub returns : goal.returns
returns c = λ rows.
    let s = c.args.state.now in
    let new : State = record { facts = c.push-2.new.self; known = s.known; later = s.later; steps = c.close.new.steps } in
    let count : c.len-count.result ≡ length s.facts.items = omega (arith, c.len-count.ensures) in
    lost_first c.args.case.now rows s new c.args.number c.len-count.result (plain_fact c.args.first.now) c.copy_fact.result
    (plain_fact c.args.second.now) c.push.new.self
    (c.copy_fact.ensures.proper c.args.case.now c.requires.second_proper) c.copy_fact.ensures.is c.requires.are count c.in_ok-push.ensures c.in_ok-close.ensures
    c.in_ok-push-2.ensures.items refl refl
