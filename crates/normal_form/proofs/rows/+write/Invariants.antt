use Rattle.std.{proofs.Common.{◌≡◌, ◌≤◌, ◌<◌, length, map, vec_len}, specs.Prelude.{All}}
use Rattle.pc_common.specs.World.{Node as PlainNode}
use Rattle.pc_ground.specs.{Tree.{Tree}, Keys.{row_node}, PlainGround.{plain_ground, pushed, folded}, declared.ground.Ground.{size-Ground}}
use Rattle.normal_form.specs.{Parts.{IsWritten}, Spine.{before}}
use Rattle.normal_form.proofs.rows.+write.Given as goal

abbrev pub decreases-write : goal.decreases-write
decreases-write l = goal.size-write l

-- the right side so far is written, and the joints before it make the whole
abbrev pub invariant-loop-joint : goal.invariant-loop-joint
invariant-loop-joint l = record {
  start : l.start ≡ vec_len l.fn.rows;
  room : l.start ≤ vec_len l.rows;
  smaller : All (λ j. size-Ground j.left.now < size-Ground l.fn.ground) l.joints.items;
  right : (t : Tree PlainNode)
      × (before l.joints.items t ≡ folded (pushed l.fn.holds (plain_ground l.fn.ground)))
      × IsWritten (map row_node l.fn.rows.items) (map row_node l.rows.items) l.part t;
}

abbrev pub decreases-loop-joint : goal.decreases-loop-joint
decreases-loop-joint l = length l.joints.items
