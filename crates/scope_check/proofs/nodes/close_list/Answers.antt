use Rattle.std.proofs.{Common.{◌<◌, length, ap, refl, arith}, lemmas.Result.{err_from_is_err_and}}
use Rattle.scope_check.proofs.Walks.{drop_item, closed_more, closed_fault, closed_all}
use Rattle.scope_check.proofs.nodes.close_list.Goals as goal

pub loop-term-init : goal.loop-term-init
loop-term-init g c = rw c.new-closed.ensures (refl, refl)

pub returns-in_err-close-clause-err : goal.returns-in_err-close-clause-err
returns-in_err-close-clause-err g c =
    let l = c.loop-term in
    let within : l.term-index < length c.args.terms.now = omega (arith, ap length c.as_slice-term-items.ensures.value) in
    let next = drop_item c.args.terms.now l.term-index c.term-item.result within (rw c.as_slice-term-items.ensures.value at c.term-item.is) in
    let p = err_from_is_err_and c.from_residual.result c.from_residual.ensures.1 in
    rw (p.1, p.2)
    (closed_fault (g.T.Term.fault c.args.stages.now c.args.scope.now) (g.T.Term.closing c.args.stages.now c.args.scope.now) c.args.terms.now
    l.term-index c.term-item.result l.closed _ next c.in_err-close.ensures.err l.invariant)

pub loop-term-preserved : goal.loop-term-preserved
loop-term-preserved g c =
    let l = c.loop-term in
    let within : l.term-index < length c.args.terms.now = omega (arith, ap length c.as_slice-term-items.ensures.value) in
    let next = drop_item c.args.terms.now l.term-index c.term-item.result within (rw c.as_slice-term-items.ensures.value at c.term-item.is) in
    rw c.in_ok-push.ensures
    (closed_more (g.T.Term.fault c.args.stages.now c.args.scope.now) (g.T.Term.closing c.args.stages.now c.args.scope.now) c.args.terms.now
    l.term-index c.term-item.result c.in_ok-close.field-0 l.closed next c.in_ok-close.ensures.ok.0 c.in_ok-close.ensures.ok.1 l.invariant)

pub returns-clause-ok : goal.returns-clause-ok
returns-clause-ok g c =
    closed_all (g.T.Term.fault c.args.stages.now c.args.scope.now) (g.T.Term.closing c.args.stages.now c.args.scope.now) c.args.terms.now
    c.loop-term.term-index c.loop-term.closed (omega (arith, ap length c.as_slice-term-items.ensures.value)) c.loop-term.invariant
