-- Some axiom that is left is False.
use Rattle.std.proofs.Common.{◌≡◌}
use Rattle.pc_ground.specs.Stages.{plain_axioms}
use Rattle.lifted_facts.specs.PlainFacts.{root}
use Rattle.lifter.specs.{declared.kind.FactKind.TheVariants.{False}, Kinds.{kind_of}, PartLists.{facts_from}}
use Rattle.lifter.proofs.roots.false_axiom.Given as goal

abbrev pub invariant-loop-k : goal.invariant-loop-k
invariant-loop-k l = kind_of (facts_from l.case (root (plain_axioms l.axioms)) l.k) ≡ False
