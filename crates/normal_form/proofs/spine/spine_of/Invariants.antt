use Rattle.std.{proofs.Common.{◌≡◌, ◌≤◌, ◌<◌}, specs.Prelude.{All}}
use Rattle.pc_ground.specs.{PlainGround.{plain_ground, pushed, folded}, declared.ground.Ground.{size-Ground}}
use Rattle.normal_form.specs.Spine.{before}
use Rattle.normal_form.proofs.spine.spine_of.Given as goal

abbrev pub invariant-loop-rest : goal.invariant-loop-rest
invariant-loop-rest l = record {
  tree : before l.joints.items (folded (pushed l.meant (plain_ground l.rest))) ≡ folded (pushed l.fn.holds (plain_ground l.fn.ground));
  depth : size-Ground l.rest ≤ size-Ground l.fn.ground;
  smaller : All (λ j. size-Ground j.left.now < size-Ground l.fn.ground) l.joints.items;
}
