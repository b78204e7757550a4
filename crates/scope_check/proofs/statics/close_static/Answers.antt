use Rattle.std.proofs.{Common.{◌≡◌, length, sym, ap, ◌∙◌, unwrap_or}, lemmas.Result.{err_from_is_err_and}}
use Rattle.pc_syntax.specs.{Predicates.{takes_of}, declared.pred.Pred.TheVariants.{True}, Closed.{closed_static}, Closing.{closing_of_static}}
use Rattle.scope_check.proofs.StaticLaws.{static_arity, static_arguments}
use Rattle.scope_check.proofs.statics.close_static.Goals as goal

pub returns-then-found-wanted-clause-err : goal.returns-then-found-wanted-clause-err
returns-then-found-wanted-clause-err c =
    let args = c.args.args.now in
    let p = c.in-Some.pred in
    let named = rw c.as_slice.ensures.value at c.in-Some.ensures in
    let other : length args ≡ length (takes_of p) → ⊥ = λ h. c.if-found-wanted.true (c.len-found.ensures.value ∙ h ∙ sym c.arity-wanted.ensures) in
    rw (c.len-found.ensures.value, c.arity-wanted.ensures)
    (static_arity c.args.scope.now c.args.word.now args p (sym named) other)

pub returns-in_err-args-clause-err : goal.returns-in_err-args-clause-err
returns-in_err-args-clause-err c =
    let args = c.args.args.now in
    let p = c.in-Some.pred in
    let named = rw c.as_slice.ensures.value at c.in-Some.ensures in
    let same : length args ≡ length (takes_of p) = sym c.len-found.ensures.value ∙ c.if-found-wanted.false ∙ c.arity-wanted.ensures in
    let e = err_from_is_err_and c.from_residual.result c.from_residual.ensures.1 in
    rw (e.1, e.2)
    (rw (static_arguments c.args.scope.now c.args.word.now args p (sym named) same) c.in_err-args.ensures.err)

pub returns-clause-ok : goal.returns-clause-ok
returns-clause-ok c =
    let args = c.args.args.now in
    let p = c.in-Some.pred in
    let named = rw c.as_slice.ensures.value at c.in-Some.ensures in
    let same : length args ≡ length (takes_of p) = sym c.len-found.ensures.value ∙ c.if-found-wanted.false ∙ c.arity-wanted.ensures in
    let made = c.in_ok-args.ensures.ok in (
      static_arguments c.args.scope.now c.args.word.now args p (sym named) same ∙ made.0,
      ap (closed_static p) made.1 ∙ ap (λ o. closing_of_static c.args.scope.now (unwrap_or o True) args) named,
    )
