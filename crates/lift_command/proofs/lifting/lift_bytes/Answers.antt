use Rattle.lifted_check.specs.LiftedTexts.{asked}
use Rattle.lift_command.proofs.Taken.{tree_refutes, is_taken}
use Rattle.lift_command.proofs.lifting.lift_bytes.Goals as goal

pub lift-requires : goal.lift-requires
lift-requires c = tree_refutes c.args.front.now c.args.bytes.now c.in-Tree.refutation (rw c.in-Tree.is at c.in_ok-check_one.ensures.is)

pub returns-in_ok-lift-in-Tree : goal.returns-in_ok-lift-in-Tree
returns-in_ok-lift-in-Tree c = (
  c.in-Tree.refutation,
  rw c.in-Tree.is at c.in_ok-check_one.ensures.is,
  is_taken (asked c.args.front.now.case c.args.front.now.axioms) c.in_ok-lift-in-Tree.field-0.items c.in_ok-lift-in-Tree.ensures,
)
