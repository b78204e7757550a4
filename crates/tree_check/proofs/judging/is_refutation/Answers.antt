use Rattle.std.proofs.Common.{◌≤◌, List, length, sym, subst, arith}
use Rattle.pc_common.specs.{World.{Node}, Steps.{Step}}
use Rattle.refutation.specs.Kept.{kept}
use Rattle.tree_check.proofs.{Followed.{AreFollowed, none_followed, next_followed, all_followed}, Kept.{next_stays, next_goes, all_kept}}
use Rattle.tree_check.proofs.judging.is_refutation.Goals.{else-stays-k-via-then-stays-k+in_ok-take+else-not-branch, else-stays-k-via-else-stays-k}
use Rattle.tree_check.proofs.judging.is_refutation.Goals as goal

pub loop-k-init : goal.loop-k-init
unfolding kept
loop-k-init c = λ t flat. none_followed c.args.version t c.in_ok-branches.branches (c.in_ok-branches.ensures t flat)

pub loop-k-preserved : goal.loop-k-preserved
loop-k-preserved c =
    let flags = c.args.stays.now in
    let steps = c.args.steps.now in
    let k = c.loop-k.k in
    elim c.else-stays-k.branch [
      | else-stays-k-via-then-stays-k+in_ok-take+else-not-branch w ↦ rw w.branches-is (λ t flat.
          let P : List (Step Node) → Type 0 = λ ss. AreFollowed c.args.version t ss w.take.new.self in
          subst P (sym (next_stays flags steps c.requires k _ c.step-step.ensures _ w.if-stays-k.true)) (
          next_followed c.args.version t _ _ c.loop-k.branches w.take.new.self w.in_ok-take.field-0 (c.loop-k.invariant t flat) w.if-not-branch.false
          ((rw w.kind.ensures at w.in_ok-take.ensures) c.args.version t)
          ))
      | else-stays-k-via-else-stays-k w ↦ rw w.branches-is (λ t flat.
          let P : List (Step Node) → Type 0 = λ ss. AreFollowed c.args.version t ss c.loop-k.branches in
          subst P (sym (next_goes flags steps c.requires k _ c.step-step.ensures _ w.if-stays-k.false)) (c.loop-k.invariant t flat))
    ]

pub returns : goal.returns
returns c = λ good t flat.
    let flags = c.args.stays.now in
    let steps = c.args.steps.now in
    let end : length steps ≤ c.loop-k.k = omega (arith, c.loop-k-test.false, c.len-k-end.ensures.count) in
    let P : List (Step Node) → Type 0 = λ ss. AreFollowed c.args.version t ss c.loop-k.branches in
    all_followed c.args.version t (kept flags steps) c.loop-k.branches
    (subst P (all_kept flags steps c.requires c.loop-k.k end) (c.loop-k.invariant t flat))
    (λ opens st. (c.is_closed.ensures c.args.version t opens st).0 good)
