use Rattle.std.proofs.Common.{List, sym, ap, subst, true}
use Rattle.pc_syntax.specs.{declared.bound.Bound.{Bound}, Closed.{plain_closed}, IsClosed.{IsClosed}}
use Rattle.static_preds.{specs.{Slots.{AreInRange}, Values.{meanings, scope_of}}, proofs.SlotLaws.{no_slots}}
use Rattle.lifted_facts.specs.PlainFacts.{said}
use Rattle.lifter.proofs.roots.axiom_fact.Goals as goal

pub returns-clause-is : goal.returns-clause-is
returns-clause-is c = ap (λ (bs : List Bound). said true (plain_closed c.args.closed.now.body) (meanings bs) 0) c.new.ensures

pub returns-clause-proper : goal.returns-clause-proper
returns-clause-proper c = λ k.
    let P : List Bound → Type 0 = λ bs. IsClosed (scope_of bs) (plain_closed c.args.closed.now.body) × AreInRange k bs in
    subst P (sym c.new.ensures) (c.args.closed.now.closed, no_slots k)
