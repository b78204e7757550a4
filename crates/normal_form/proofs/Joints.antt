-- The connectives on a formula's right side.
use Rattle.std.proofs.Common.{◌≡◌, List, [], ◌∷◌, ◌++◌, refl, ap}
use Rattle.pc_common.specs.World.{Node}
use Rattle.pc_ground.specs.Tree.{Tree}
use Rattle.normal_form.specs.{declared.joint.Joint.{Joint}, Spine.{before, junction_of, left_tree}}

pub before-push : (js : List Joint) (j : Joint) (t : Tree Node) → before (js ++ j ∷ []) t ≡ before js (junction_of j.junction (left_tree j) t)
before-push [] j t = refl
before-push (i ∷ js) j t = ap (junction_of i.junction (left_tree i)) (before-push js j t)
