use Rattle.std.proofs.{Common.{◌∙◌}, lemmas.List.{length-map}}
use Rattle.pc_ground.specs.Stages.{plain_axioms}
use Rattle.axiom_core.proofs.Tries.{tried_dropped, tried_kept}
use Rattle.axiom_core.proofs.shrinking.try_without.Goals as goal

pub are_refuted-requires : goal.are_refuted-requires
are_refuted-requires g c = c.requires.tried.size ∙ length-map c.args.front.now.axioms _

pub returns-then-branch : goal.returns-then-branch
returns-then-branch g c =
    let front = c.args.front.now in
    tried_dropped front.case (plain_axioms front.axioms) c.args.flags.now c.args.at c.requires.tried c.requires.inside
    (rw c.if-branch.true at c.in_ok-are_refuted.ensures)

pub returns-else-branch : goal.returns-else-branch
returns-else-branch g c =
    let front = c.args.front.now in
    tried_kept front.case (plain_axioms front.axioms) c.args.flags.now c.args.at c.requires.tried (rw c.if-branch.false at c.in_ok-are_refuted.ensures)
