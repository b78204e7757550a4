-- The chosen ones of the axioms so far were copied.
use Rattle.std.proofs.Common.{◌≡◌, take}
use Rattle.pc_ground.specs.Stages.{plain_axioms}
use Rattle.axiom_core.specs.{Chosen.{taken}, Choices.{choice}}
use Rattle.axiom_core.proofs.chosen.chosen_axioms.Given as goal

abbrev pub invariant-loop-k : goal.invariant-loop-k
invariant-loop-k l = plain_axioms l.copies ≡ taken (choice l.flags l.left_out) (take l.k (plain_axioms l.axioms))
