use Rattle.pc_ground.specs.Stages.{plain_axioms}
use Rattle.axiom_core.{specs.Chosen.{taken, flagged}, proofs.SameCores.{found_allow, part_allow, never_both}}
use Rattle.axiom_core.proofs.members.refuted_by.Goals as goal

pub unreachable-requires : goal.unreachable-requires
unreachable-requires g c =
    let front = c.args.front.now in
    let keep = flagged c.args.flags.now in
    never_both front.case (taken keep (plain_axioms front.axioms))
    (part_allow front keep c.in_ok-kept.kept c.in_ok-kept.ensures
    (found_allow c.in_ok-kept.kept c.in-Observable.field-0 (rw c.in-Observable.is at c.in_ok-steps.ensures)))
    c.requires.forbidden

pub returns : goal.returns
returns g c = (c.in_ok-kept.ensures, rw c.in-Unobservable.is at c.in_ok-steps.ensures)
