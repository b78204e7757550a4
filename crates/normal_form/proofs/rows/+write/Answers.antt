use Rattle.std.proofs.{Common.{◌≡◌, ◌≤◌, ◌<◌, ℕ, List, ◌++◌, length, map, sym, ap, ◌∙◌, subst, Some, vec_len, length-append, arith}, lemmas.List.{length-map}}
use Rattle.std.proofs.lemmas.List.Elements.{All-pop}
use Rattle.pc_common.specs.World.{Node}
use Rattle.pc_ground.specs.{Keys.{row_node}, declared.{row.Row.{Row}, ground.Ground.{size-Ground}}}
use Rattle.normal_form.{specs.{declared.joint.Joint.{Joint}, Parts.{backward, IsWritten}, Spine.{before, left_tree, junction_of}}, proofs.Joints.{before-push}}
use Rattle.normal_form.proofs.rows.+write.Goals as goal

behind : (len n : ℕ) (first new rest : List (Row Node)) → new ≡ first ++ rest → length first ≡ n → length new ≡ len → n ≤ len
behind len n first new rest e from is = omega (arith, ap length e, length-append first rest)

pub loop-joint-preserved : goal.loop-joint-preserved
loop-joint-preserved t c =
    let old = c.args.rows.now.items in
    let first = map row_node old in
    let joint = c.in-Some.joint in
    let side = left_tree joint in
    let whole = c.loop-joint.invariant.right in
    let right = whole.0 in
    let start : length first ≡ c.len-start.result = omega (arith, length-map old row_node) in
    let new = c.join.new.rows.items in
    let left : IsWritten (first ++ backward right) (map row_node c.write.new.rows.items) c.in_ok-left.left side =
    subst (λ (rows : List (Row Node)). IsWritten rows (map row_node c.write.new.rows.items) c.in_ok-left.left side) whole.2.1 c.in_ok-left.ensures in
    let written : IsWritten first (map row_node new) c.in_ok-part-2.part (junction_of joint.junction side right) =
    c.in_ok-part-2.ensures first side right start whole.2.0 left in
    record {
      start = c.loop-joint.invariant.start;
      room = behind (vec_len c.join.new.rows) c.len-start.result first (map row_node new) _ written.1 start (omega (arith, length-map new row_node));
      smaller = (All-pop (λ (j : Joint). size-Ground j.left.now < size-Ground c.args.ground.now) _ c.pop.new.self.items (Some joint)
          c.in-Some.ensures.items c.loop-joint.invariant.smaller).0;
      right = (
        junction_of joint.junction side right,
        sym (before-push c.pop.new.self.items joint right) ∙ ap (λ (js : List Joint). before js right) (sym c.in-Some.ensures.items) ∙ whole.1,
        written,
      );
    }
