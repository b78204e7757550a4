-- The last k axioms are True.
use Rattle.std.proofs.Common.{◌≡◌, ◌-◌, length}
use Rattle.pc_ground.specs.{Tree.{always}, Stages.{plain_axioms}}
use Rattle.lifted_facts.specs.PlainFacts.{root}
use Rattle.lifter.specs.PartLists.{facts_from}
use Rattle.lifter.proofs.roots.last_axiom.Given as goal

abbrev pub invariant-loop-k : goal.invariant-loop-k
invariant-loop-k l = facts_from l.case (root (plain_axioms l.axioms)) (length l.axioms - l.k) ≡ always
