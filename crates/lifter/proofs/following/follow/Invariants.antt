-- The steps from the next one on are ahead.
use Rattle.std.proofs.Common.{true, List, drop}
use Rattle.lifted_facts.specs.PlainFacts.{Branch}
use Rattle.lifter.specs.{States.{AreKept}, Progress.{HasStepsLeft}}
use Rattle.lifter.proofs.following.follow.Given as goal

abbrev pub invariant-loop-k : goal.invariant-loop-k
invariant-loop-k l = record {
  kept : AreKept l.case l.state;
  ahead : (start : List Branch) → HasStepsLeft l.case l.tree start l.fn.state true l.refutation
      → HasStepsLeft l.case l.tree start l.state l.is_open (drop l.k l.refutation);
}
