use Rattle.std.proofs.Common.{List, ap, ◌∙◌}
use Rattle.pc_ground.specs.PlainGround.{plain_ground, pushed, folded}
use Rattle.normal_form.{specs.{declared.joint.{Junction.{Junction}, Joint.{Joint}}, Spine.{before, junction_of}}, proofs.Joints.{before-push}}
use Rattle.normal_form.proofs.spine.push.Goals as goal

pub returns-clause-tree : goal.returns-clause-tree
returns-clause-tree c = λ t.
    let old = c.args.joints.now.items in
    ap (λ (js : List Joint). before js t) c.in_ok-push.ensures.items ∙ before-push old _ t
    ∙ ap (λ (k : Junction). before old (junction_of k (folded (pushed c.args.holds (plain_ground c.args.left.now))) t)) c.under.ensures
