use Rattle.std.proofs.Common.{List, map, sym, subst}
use Rattle.pc_syntax.specs.Closed.{PlainClosed}
use Rattle.pc_ground.specs.Stages.{plain_stage, plain_axioms, numbers_of, AxiomsWithin}
use Rattle.axiom_core.{specs.Choices.{choice}, proofs.{Taking.{within_taken}, SameCores.{part_is}}}
use Rattle.axiom_core.proofs.chosen.part_of.Goals as goal

pub front_with-requires : goal.front_with-requires
front_with-requires g c =
    let front = c.args.front.now in
    let numbers = numbers_of (map plain_stage front.stages) in
    let P : List PlainClosed → Type 0 = λ ps. AxiomsWithin numbers ps in
    record {
      within = subst P (sym c.in_ok-axioms.ensures) (within_taken numbers (choice c.args.flags.now c.args.left_out) (plain_axioms front.axioms) front.within);
    }

pub returns : goal.returns
returns g c =
    part_is c.args.front.now (choice c.args.flags.now c.args.left_out) c.in_ok-case.case c.in_ok-axioms.axioms c.front_with.result c.in_ok-case.ensures
    c.in_ok-axioms.ensures c.front_with.ensures.case c.front_with.ensures.stages c.front_with.ensures.axioms
