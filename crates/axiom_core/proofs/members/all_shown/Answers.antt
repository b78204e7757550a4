use Rattle.std.proofs.{Common.{◌∙◌}, lemmas.List.{length-map}}
use Rattle.axiom_core.{specs.Chosen.{flagged}, proofs.SameCores.{shown_next}}
use Rattle.axiom_core.proofs.members.all_shown.Goals as goal

pub loop-at-preserved : goal.loop-at-preserved
loop-at-preserved g c =
    let last = c.in_ok-add_shown.ensures in
    shown_next c.args.front.now (flagged c.args.flags.now) c.args.kept.now c.loop-at.at-index last.0 c.loop-at.shown c.add_shown.new.shown
    (rw c.as_slice-at-items.ensures.value at c.loop-at-test.true) c.loop-at.invariant (rw c.as_slice-at-items.ensures.value at last.1) last.2

pub add_shown-requires-clause-size : goal.add_shown-requires-clause-size
add_shown-requires-clause-size g c = c.requires.tried.size ∙ length-map c.args.front.now.axioms _

pub add_shown-requires-clause-allowed : goal.add_shown-requires-clause-allowed
add_shown-requires-clause-allowed g c =
    let here = c.requires.flagged c.loop-at.at-index 0 (rw c.as_slice-at-items.ensures.value at c.loop-at-test.true) in
    rw c.as_slice-at-items.ensures.value (c.requires.tried.needed _ here.0 here.1)
