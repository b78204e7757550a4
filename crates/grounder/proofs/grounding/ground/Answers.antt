use Rattle.std.proofs.{Common.{◌≡◌, map, arith, ◌∙◌, ap}, lemmas.{Grind.{common_steps}, Result.{IfOk-weaker}}}
use Rattle.pc_syntax.specs.Closed.{plain_closed}
use Rattle.pc_ground.specs.{PlainGround.{ground_false, plain_ground, simplified, normal}, GroundTree.{axioms_unfolded, closed_ground_tree}}
use Rattle.pc_ground.proofs.NormalForms.{normal_simplified}
use Rattle.grounder.{specs.{declared.operator.Operator.TheVariants.{And}, Members.{whole_of}}, proofs.WithMembers.{axioms_folded}}
use Rattle.grounder.proofs.grounding.ground.Goals as goal

pub loop-axiom-init : goal.loop-axiom-init
loop-axiom-init c = rw c.new-kept.ensures.items (axioms_folded c.args.case.now c.args.axioms.now)

pub returns-then-branch-clause-tree : goal.returns-then-branch-clause-tree
returns-then-branch-clause-tree c =
    let p = axioms_unfolded c.args.case.now (map (λ a. plain_closed a.body) c.args.axioms.now) in
    let e : ground_false ≡ simplified p = grind
    (arith, common_steps, c.loop-axiom.invariant, c.in_ok-keep.ensures, c.in_ok-member.ensures, c.axiom-item.is, c.if-branch.true) in
    ap normal e ∙ normal_simplified p

pub returns-clause-tree : goal.returns-clause-tree
returns-clause-tree c =
    let axioms = map (λ a. plain_closed a.body) c.args.axioms.now in
    let p = axioms_unfolded c.args.case.now axioms in
    let kept = map plain_ground c.loop-axiom.kept.items in
    let all : whole_of And kept ≡ simplified p = grind (arith, common_steps, c.loop-axiom.invariant) in
    IfOk-weaker c.join_all.result (λ g. plain_ground g ≡ whole_of And kept) (λ g. normal (plain_ground g) ≡ closed_ground_tree c.args.case.now axioms)
    (λ g e. ap normal (e ∙ all) ∙ normal_simplified p) c.join_all.ensures
