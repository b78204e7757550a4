-- Some part that is left is False.
use Rattle.std.proofs.Common.{◌≡◌}
use Rattle.lifted_facts.specs.PlainFacts.{plain_fact}
use Rattle.lifter.specs.{declared.kind.FactKind.TheVariants.{False}, Kinds.{kind_of}, PartLists.{parts_from}}
use Rattle.lifter.proofs.fact_kind.false_part.Given as goal

abbrev pub invariant-loop-k : goal.invariant-loop-k
invariant-loop-k l = kind_of (parts_from l.case (plain_fact l.fact) l.k) ≡ False
