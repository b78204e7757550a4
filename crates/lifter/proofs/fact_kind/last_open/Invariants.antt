-- The last k parts are True.
use Rattle.std.proofs.Common.{◌≡◌, ◌-◌}
use Rattle.pc_ground.specs.Tree.{always}
use Rattle.lifted_facts.specs.PlainFacts.{plain_fact}
use Rattle.lifter.specs.PartLists.{parts_from}
use Rattle.lifter.proofs.fact_kind.last_open.Given as goal

abbrev pub invariant-loop-k : goal.invariant-loop-k
invariant-loop-k l = parts_from l.case (plain_fact l.fact) (l.count - l.k) ≡ always
