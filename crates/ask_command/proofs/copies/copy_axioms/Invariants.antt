-- The axioms so far were copied.
use Rattle.std.proofs.Common.{◌≡◌, take}
use Rattle.pc_ground.specs.Stages.{plain_axioms}
use Rattle.ask_command.proofs.copies.copy_axioms.Given as goal

abbrev pub invariant-loop-closed : goal.invariant-loop-closed
invariant-loop-closed l = plain_axioms l.copies ≡ plain_axioms (take l.closed-index l.closed-items)
