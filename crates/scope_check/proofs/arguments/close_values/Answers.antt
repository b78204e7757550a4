use Rattle.std.proofs.{Common.{refl, arith}, lemmas.Result.{err_from_is_err_and}}
use Rattle.scope_check.proofs.Walks.{drop_at, bound_more, bound_past, bound_stop, bound_all}
use Rattle.scope_check.proofs.arguments.close_values.Goals.{then-k-len+in_ok-push, else-k-len+in-Plain-1, else-k-len+in-Slot-1}
use Rattle.scope_check.proofs.arguments.close_values.Goals as goal

pub loop-k-init : goal.loop-k-init
loop-k-init c = rw c.new-closed.ensures (refl, refl)

pub returns-in_err-value-clause-err : goal.returns-in_err-value-clause-err
returns-in_err-value-clause-err c =
    let args = c.args.args.now in
    let k = c.loop-k.k in
    let p = err_from_is_err_and c.from_residual.result c.from_residual.ensures.1 in
    rw (p.1, p.2)
    (bound_stop c.args.scope.now c.args.names.now args k c.get.result.now c.loop-k.closed _
    (drop_at args k _ c.get.ensures) c.in_err-value.ensures.err c.loop-k.invariant)

pub loop-k-preserved : goal.loop-k-preserved
loop-k-preserved c =
    let names = c.args.names.now in
    let args = c.args.args.now in
    let k = c.loop-k.k in
    let next = drop_at args k _ c.get.ensures in
    let made = c.in_ok-value.ensures.ok in
    elim c.if-k-len.branch [
      | then-k-len+in_ok-push w ↦
          rw (w.closed-is, w.in_ok-push.ensures)
          (bound_more c.args.scope.now names args k c.get.result.now c.in_ok-value.value c.loop-k.closed (omega arith) next made.0 made.1 c.loop-k.invariant)
      | else-k-len+in-Plain-1 w ↦
          rw w.closed-is
          (bound_past c.args.scope.now names args k c.get.result.now c.loop-k.closed (omega arith) next made.0 c.loop-k.invariant)
      | else-k-len+in-Slot-1 w ↦
          rw w.closed-is
          (bound_past c.args.scope.now names args k c.get.result.now c.loop-k.closed (omega arith) next made.0 c.loop-k.invariant)
    ]

pub returns-clause-ok : goal.returns-clause-ok
returns-clause-ok c =
    bound_all c.args.scope.now c.args.names.now c.args.args.now c.loop-k.k c.loop-k.closed (omega arith) c.loop-k.invariant
