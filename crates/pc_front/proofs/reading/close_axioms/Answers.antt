use Rattle.std.proofs.{Common.{refl, arith}, lemmas.{List.{map-append}, Result.{err_from_is_err_and}}}
use Rattle.pc_syntax.specs.Closed.{plain_closed}
use Rattle.scope_check.proofs.Walks.{drop_item, closed_more, closed_fault, closed_all}
use Rattle.pc_ground.specs.Stages.{plain_axioms}
use Rattle.pc_front.specs.ModelSteps.{axiom_fault, closing_of_axiom}
use Rattle.pc_front.proofs.reading.close_axioms.Goals as goal

pub loop-axiom-init : goal.loop-axiom-init
loop-axiom-init c = rw c.new-closed.ensures (refl, refl)

pub returns-in_err-close-clause-err : goal.returns-in_err-close-clause-err
returns-in_err-close-clause-err c =
    let l = c.loop-axiom in
    let stages = c.args.model.now.stages in
    let next = drop_item c.args.axioms.now l.axiom-index c.axiom-item.result c.loop-axiom-test.true c.axiom-item.is in
    let p = err_from_is_err_and c.from_residual.result c.from_residual.ensures.1 in
    rw (p.1, p.2)
    (closed_fault (axiom_fault stages) (closing_of_axiom stages) c.args.axioms.now
    l.axiom-index c.axiom-item.result (plain_axioms l.closed) _ next c.in_err-close.ensures.err l.invariant)

pub loop-axiom-preserved : goal.loop-axiom-preserved
loop-axiom-preserved c =
    let l = c.loop-axiom in
    let stages = c.args.model.now.stages in
    let next = drop_item c.args.axioms.now l.axiom-index c.axiom-item.result c.loop-axiom-test.true c.axiom-item.is in
    rw (c.in_ok-push.ensures, map-append)
    (closed_more (axiom_fault stages) (closing_of_axiom stages) c.args.axioms.now
    l.axiom-index c.axiom-item.result (plain_closed c.in_ok-close.field-0.body) (plain_axioms l.closed) next
    c.in_ok-close.ensures.ok.no_fault c.in_ok-close.ensures.ok.closing l.invariant)

pub returns-clause-ok : goal.returns-clause-ok
returns-clause-ok c =
    let stages = c.args.model.now.stages in
    let all = closed_all (axiom_fault stages) (closing_of_axiom stages) c.args.axioms.now
    c.loop-axiom.axiom-index (plain_axioms c.loop-axiom.closed) (omega arith) c.loop-axiom.invariant in
    record { no_fault = all.0; closings = all.1 }
