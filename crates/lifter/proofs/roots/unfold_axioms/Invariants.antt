-- The axioms before the next one are unfolded.
use Rattle.pc_ground.specs.Stages.{plain_axioms}
use Rattle.lifted_facts.specs.PlainFacts.{root}
use Rattle.lifter.proofs.TakenParts.{IsTakenTo}
use Rattle.lifter.proofs.roots.unfold_axioms.Given as goal

abbrev pub invariant-loop-k : goal.invariant-loop-k
invariant-loop-k l = IsTakenTo l.case l.tree (root (plain_axioms l.axioms)) l.k 0 l.at l.fn.state l.state
