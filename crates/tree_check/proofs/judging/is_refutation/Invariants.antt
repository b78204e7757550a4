-- Of the steps up to the loop's, those that stay are followed.
use Rattle.std.proofs.Common.{◌≡◌, take}
use Rattle.pc_common.specs.World.{Node}
use Rattle.pc_ground.specs.{Tree.{Tree}, Rows.{rows_of}}
use Rattle.refutation.specs.Kept.{kept}
use Rattle.tree_check.proofs.Followed.{AreFollowed}
use Rattle.tree_check.proofs.judging.is_refutation.Given as goal

abbrev pub invariant-loop-k : goal.invariant-loop-k
invariant-loop-k l = (t : Tree Node) → l.fn.tree ≡ rows_of t
    → AreFollowed l.fn.version t (kept (take l.k l.fn.stays) (take l.k l.fn.steps)) l.branches
