use Rattle.std.proofs.{Common.{refl, arith}, lemmas.Result.{err_from_is_err_and}}
use Rattle.pc_syntax.specs.Predicates.{takes_of}
use Rattle.scope_check.proofs.Walks.{drop_at, arguments_more, arguments_stop, arguments_all}
use Rattle.scope_check.proofs.arguments.close_arguments.Goals as goal

pub loop-k-init : goal.loop-k-init
loop-k-init c = rw c.new-closed.ensures (refl, refl)

pub returns-in_err-close_argument-clause-err : goal.returns-in_err-close_argument-clause-err
returns-in_err-close_argument-clause-err c =
    let takes = takes_of c.args.pred in
    let args = c.args.args.now in
    let k = c.loop-k.k in
    let p = err_from_is_err_and c.from_residual.result c.from_residual.ensures.1 in
    rw (p.1, p.2)
    (arguments_stop c.args.scope.now takes args k c.takes.result c.get.result.now c.loop-k.closed _
    (drop_at takes k _ c.takes.ensures) (drop_at args k _ c.get.ensures) c.in_err-close_argument.ensures.err c.loop-k.invariant)

pub loop-k-preserved : goal.loop-k-preserved
loop-k-preserved c =
    let takes = takes_of c.args.pred in
    let args = c.args.args.now in
    let k = c.loop-k.k in
    let made = c.in_ok-close_argument.ensures.ok in
    rw c.in_ok-push.ensures
    (arguments_more c.args.scope.now takes args k c.takes.result c.get.result.now c.in_ok-close_argument.field-0 c.loop-k.closed
    (drop_at takes k _ c.takes.ensures) (drop_at args k _ c.get.ensures) made.0 made.1 c.loop-k.invariant)

pub returns-clause-ok : goal.returns-clause-ok
returns-clause-ok c =
    arguments_all c.args.scope.now (takes_of c.args.pred) c.args.args.now c.loop-k.k c.loop-k.closed (omega arith) c.loop-k.invariant
