use Rattle.std.proofs.Common.{◌≡◌, length, refl, sym, subst, ◌∙◌, ap, arith}
use Rattle.lifted_facts.specs.{PlainFacts.{PlainFact, plain_fact}, Lifted.{HasSides}}
use Rattle.lifter.specs.{Trees.{fact_tree}, Kinds.{kind_of}, declared.state.{State.{State}, Later.{Later}, Task.TheVariants.{Close}}, States.{branch_of}}
use Rattle.lifter.proofs.StateMoves.{lost_second}
use Rattle.lifter.proofs.moving.lose_second.Goals as goal

pub returns : goal.returns
returns c = λ rows.
    let case = c.args.case.now in let s = c.args.state.now in
    let new : State = record { facts = c.push-3.new.self; known = s.known; later = c.push-2.new.self; steps = c.push.new.self } in
    let l : Later = record { count = c.len-count.result; known = c.len-known.result; fact = c.copy_fact.result; task = Close } in
    let count : c.len-count.result ≡ length s.facts.items = omega (arith, c.len-count.ensures) in
    let P : PlainFact → Type 0 = λ h. HasSides case (branch_of s) c.args.number (plain_fact c.args.first.now) h in
    lost_second case rows s new c.args.number c.len-count.result c.copy_fact-2.result (plain_fact c.args.first.now) l
    (c.copy_fact-2.ensures.proper case c.requires.first_proper) c.copy_fact-2.ensures.is (subst P (sym c.copy_fact.ensures.is) c.requires.are) count refl
    c.len-known.ensures
    (c.copy_fact.ensures.proper case c.requires.second_proper) refl (ap (λ h. kind_of (fact_tree case h)) c.copy_fact.ensures.is ∙ c.requires.kind)
    c.in_ok-push-3.ensures.items refl c.in_ok-push-2.ensures.items c.in_ok-push.ensures
