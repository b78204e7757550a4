-- The axioms before the next one are facts.
use Rattle.std.{proofs.Common.{◌≡◌, map, take}, specs.Prelude.{All}}
use Rattle.pc_common.specs.Case.{Case}
use Rattle.pc_ground.specs.Stages.{plain_axioms}
use Rattle.lifted_facts.specs.PlainFacts.{plain_fact, root, IsProper}
use Rattle.lifter.proofs.roots.axiom_facts.Given as goal

abbrev pub invariant-loop-axiom : goal.invariant-loop-axiom
invariant-loop-axiom l = record {
  are : map plain_fact l.facts.items ≡ root (plain_axioms (take l.axiom-index l.axioms));
  proper : (c : Case) → All (IsProper c) l.facts.items;
}
