use Rattle.std.proofs.{Common.{◌+◌, List, drop, refl, subst, arith}, lemmas.List.{drop_all}}
use Rattle.static_preds.proofs.Walked.{drop_at}
use Rattle.pc_common.specs.{World.{Node}, Steps.{Step}}
use Rattle.refutation.specs.Steps.{plain_step}
use Rattle.lifter.{specs.Progress.{HasStepsLeft}, proofs.StepsAhead.{none_left_at, all_closed}}
use Rattle.lifter.proofs.following.follow.Goals as goal

pub unreachable-requires : goal.unreachable-requires
unreachable-requires c =
    let a = c.requires.ahead in
    none_left_at c.args.case.now c.args.tree.now a.0 c.loop-k.state c.loop-k.is_open c.args.refutation.now c.loop-k.k c.if-not-is_open.true
    (omega (arith, c.loop-k-test.true))
    (c.loop-k.invariant.ahead a.0 a.1)

pub take_step-requires : goal.take_step-requires
take_step-requires c =
    let a = c.requires.ahead in let k = c.loop-k.k in let steps = c.args.refutation.now in
    let A : List (Step Node) → Type 0 = λ ss. HasStepsLeft c.args.case.now c.args.tree.now a.0 c.loop-k.state c.loop-k.is_open ss in
    let here = subst A (drop_at steps k (k + 1) (plain_step c.step.result.now) c.step.ensures refl) (c.loop-k.invariant.ahead a.0 a.1) in
    record { kept = c.loop-k.invariant.kept; ahead = (a.0, drop (k + 1) steps, rw c.if-not-is_open.false at here) }

pub loop-k-preserved : goal.loop-k-preserved
loop-k-preserved c =
    let k = c.loop-k.k in let steps = c.args.refutation.now in
    record {
      kept = c.in_ok-is_open.ensures.kept;
      ahead = λ start h.
          let A : List (Step Node) → Type 0 = λ ss. HasStepsLeft c.args.case.now c.args.tree.now start c.loop-k.state c.loop-k.is_open ss in
          let here = subst A (drop_at steps k (k + 1) (plain_step c.step.result.now) c.step.ensures refl) (c.loop-k.invariant.ahead start h) in
          c.in_ok-is_open.ensures.ahead start (drop (k + 1) steps) (rw c.if-not-is_open.false at here);
    }

-- where no step is left, all branches are closed
pub returns : goal.returns
returns c = λ start h.
    let P : List (Step Node) → Type 0 = λ ss. HasStepsLeft c.args.case.now c.args.tree.now start c.loop-k.state c.loop-k.is_open ss in
    all_closed c.args.case.now c.args.tree.now start c.loop-k.state c.loop-k.is_open
    (subst P (drop_all c.loop-k.k c.args.refutation.now (omega (arith, c.len-k-end.ensures.count, c.loop-k-test.false))) (c.loop-k.invariant.ahead start h))
