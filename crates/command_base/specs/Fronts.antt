-- The front that parts make, for definitions that speak of one: a command that works with parts builds no ground tree.
use Rattle.std.proofs.Common.{refl}
use Rattle.pc_ground.specs.{declared.{front.Front.{Front}, parts.Parts.{Parts}}, GroundTree.{closed_ground_tree}, Numbers.{numbered}, Rows.{rows_of}}
use Rattle.pc_ground.specs.Stages.{plain_axioms}

abbrev pub front_of_parts : Parts → Front
front_of_parts p = record {
  case = p.case;
  stages = p.stages;
  axioms = p.axioms;
  tree = rows_of (closed_ground_tree p.case (plain_axioms p.axioms));
  numbering = numbered (closed_ground_tree p.case (plain_axioms p.axioms));
  named = p.named;
  within = p.within;
  grounded = refl;
  counted = refl;
}
