use Rattle.std.proofs.Common.{◌≡◌, length, refl, arith}
use Rattle.lifted_facts.specs.PlainFacts.{plain_fact}
use Rattle.lifter.{specs.declared.state.State.{State}, proofs.StateMoves.{derived}}
use Rattle.lifter.proofs.moving.derive.Goals as goal

pub returns : goal.returns
returns c = λ rows.
    let s = c.args.state.now in
    let new : State = record { facts = c.push-2.new.self; known = s.known; later = s.later; steps = c.push.new.self } in
    let count : c.len-count.result ≡ length s.facts.items = omega (arith, c.len-count.ensures) in
    derived c.args.case.now rows s new c.args.way c.args.number c.len-count.result c.copy_fact.result (plain_fact c.args.part.now)
    (c.copy_fact.ensures.proper c.args.case.now c.requires.proper) c.copy_fact.ensures.is c.requires.is count
    c.in_ok-push-2.ensures.items refl refl c.in_ok-push.ensures
