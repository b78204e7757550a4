use Rattle.std.proofs.{Common.{sym, ◌∙◌, ap}, lemmas.List.{drop_all}}
use Rattle.pc_syntax.specs.Closed.{closed_satisfies}
use Rattle.pc_ground.specs.Stages.{plain_axioms}
use Rattle.graph_check.proofs.{FirstMembers.{item_at, axioms_next, axioms_stop}, GraphWorlds.{generated_at}}
use Rattle.graph_check.proofs.truth.are_true.Goals as goal

pub returns-then-not-branch-clause-truth : goal.returns-then-not-branch-clause-truth
returns-then-not-branch-clause-truth c = λ w t.
    let axioms = c.args.axioms.now in let k = c.loop-axiom.axiom-index in
    let there = item_at axioms k c.axiom-item.result c.loop-axiom-test.true c.axiom-item.is in
    let is = rw c.new-env.ensures at (c.in_ok-is_true.ensures.truth w (generated_at w c.loop-axiom.order c.args.order.now c.loop-axiom.invariant.same t)) in
    sym (c.loop-axiom.invariant.truth w t ∙ axioms_stop c.args.case.now w axioms k c.axiom-item.result there (sym is ∙ c.if-not-branch.true))

pub loop-axiom-preserved : goal.loop-axiom-preserved
loop-axiom-preserved c = record {
  same = c.in_ok-is_true.ensures.same ∙ c.loop-axiom.invariant.same;
  truth = λ w t.
      let axioms = c.args.axioms.now in let k = c.loop-axiom.axiom-index in
      let there = item_at axioms k c.axiom-item.result c.loop-axiom-test.true c.axiom-item.is in
      let is = rw c.new-env.ensures at (c.in_ok-is_true.ensures.truth w (generated_at w c.loop-axiom.order c.args.order.now c.loop-axiom.invariant.same t)) in
      c.loop-axiom.invariant.truth w t ∙ axioms_next c.args.case.now w axioms k c.axiom-item.result there (sym is ∙ c.if-not-branch.false);
}

pub returns-clause-truth : goal.returns-clause-truth
returns-clause-truth c = λ w t.
    sym (c.loop-axiom.invariant.truth w t
    ∙ ap (λ ys. closed_satisfies (plain_axioms ys) c.args.case.now w) (drop_all c.loop-axiom.axiom-index c.args.axioms.now c.loop-axiom-test.false))
