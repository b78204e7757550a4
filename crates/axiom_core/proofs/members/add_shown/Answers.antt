use Rattle.pc_ground.specs.Stages.{plain_axioms}
use Rattle.axiom_core.{specs.Chosen.{taken, less, flagged}, proofs.SameCores.{found_forbid, part_forbid, never_both, pushed}}
use Rattle.axiom_core.proofs.members.add_shown.Goals as goal

pub unreachable-requires : goal.unreachable-requires
unreachable-requires g c =
    let front = c.args.front.now in
    let keep = less c.args.at (flagged c.args.flags.now) in
    never_both front.case (taken keep (plain_axioms front.axioms)) c.requires.allowed
    (part_forbid front keep c.in_ok-part.part c.in_ok-part.ensures
    (found_forbid c.in_ok-part.part c.in-Unobservable.field-0 (rw c.in-Unobservable.is at c.in_ok-graph.ensures)))

pub returns : goal.returns
returns g c =
    let front = c.args.front.now in
    pushed front (less c.args.at (flagged c.args.flags.now)) (c.in_ok-part.part, c.in-Observable.graph) _ _ c.push.result
    (c.in_ok-part.ensures, rw c.in-Observable.is at c.in_ok-graph.ensures) c.push.ensures
