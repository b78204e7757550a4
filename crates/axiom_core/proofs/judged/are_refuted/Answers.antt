use Rattle.axiom_core.{specs.Choices.{choice}, proofs.SameCores.{part_judged}}
use Rattle.axiom_core.proofs.judged.are_refuted.Goals as goal

pub returns : goal.returns
returns g c =
    rw c.is_refuted.ensures (part_judged c.args.front.now (choice c.args.flags.now c.args.left_out) c.in_ok-part.part c.in_ok-part.ensures
    c.in_ok-found.found c.in_ok-found.ensures)
