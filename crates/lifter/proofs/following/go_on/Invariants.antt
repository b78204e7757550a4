-- The branches that waited and are no more are closed.
use Rattle.std.proofs.Common.{List, vec_len}
use Rattle.pc_ground.specs.Refutes.{Branch as TreeBranch}
use Rattle.lifted_facts.specs.PlainFacts.{Branch}
use Rattle.lifter.specs.{States.{AreKept}, Progress.{LeavesWaiting}}
use Rattle.lifter.proofs.following.go_on.Given as goal

abbrev pub invariant-loop-next : goal.invariant-loop-next
invariant-loop-next l = record {
  kept : AreKept l.case l.state;
  left : (start : List Branch) (opens : List TreeBranch) → LeavesWaiting l.case l.tree start l.fn.state opens → LeavesWaiting l.case l.tree start l.state opens;
}

abbrev pub decreases-loop-next : goal.decreases-loop-next
decreases-loop-next l = vec_len l.state.later
