use Rattle.pc_syntax.specs.Closed.{plain_closed}
use Rattle.axiom_core.{specs.Choices.{choice}, proofs.Taking.{copied_more}}
use Rattle.axiom_core.proofs.chosen.chosen_axioms.Goals as goal

pub loop-k-preserved : goal.loop-k-preserved
loop-k-preserved c =
    copied_more (λ a. plain_closed a.body) (choice c.args.flags.now c.args.left_out) c.args.axioms.now c.loop-k.k c.closed-item.result c.is_chosen.result _ _
    (rw c.as_slice-closed-items.ensures.value at c.loop-k-test.true) (rw c.as_slice-closed-items.ensures.value at c.closed-item.is) c.is_chosen.ensures
    c.loop-k.invariant c.in_ok-copy_chosen.ensures
