use Rattle.std.proofs.Common.{◌≡◌, ℕ, ◌∙◌, true, sym, subst, ap, reverse, length, List, [], ◌∷◌, ◌++◌}
use Rattle.pc_ground.specs.Refutes.{Branch}
use Rattle.tree_check.specs.{Sides.{left_side, right_side, with_all}, OpenBranches.{AreOpen, IsBranch}, declared.{later.Later.{Later}, side.Side.{Side}}}
use Rattle.tree_check.proofs.Steps.{stands_open, stands_by, no_split, did_split}
use Rattle.tree_check.proofs.branches.Branches.split.Goals as goal

pub returns-in_default : goal.returns-in_default
returns-in_default c = λ v t opens st.
    let op = stands_open c.args.self.now _ _ _ _ _ c.self.view_is c.if-not-self.false v t opens st in
    no_split v t c.args.negated c.args.position c.self.inside.facts _ opens op.2 (λ ps has. c.in_default.ensures.sides t ps op.1 has)

pub returns : goal.returns
returns c = λ v t opens st.
    let me = c.self.inside in let n = c.args.negated in let left = c.in-Some.left in let right = c.in-Some.right in
    let op = stands_open c.args.self.now _ _ _ _ _ c.self.view_is c.if-not-self.false v t opens st in
    let E : Branch → Side → Type 0 = λ ps side. IsBranch t c.enter_side.new.facts (with_all t ps side) in
    let entered : (ps : Branch) → E ps c.left.result → E ps (left_side n left) = λ ps b. subst (E ps) c.left.ensures b in
    let done = did_split v t n c.args.position left right me.facts c.enter_side.new.facts me.later.items opens op.2
    (λ ps has. c.in-Some.ensures.sides t ps op.1 has) c.in_ok-enter_side.ensures.first (λ ps b. entered ps (c.in_ok-enter_side.ensures.entered t ps op.1 b)) in
    let Q : List Later → Type 0 = λ ls. AreOpen t true c.enter_side.new.facts (reverse ls) done.0 in
    let item : ℕ → Side → Later = λ m side. record { facts = m; side = side } in
    let same : c.push.new.self.items ≡ me.later.items ++ item (length me.facts) (right_side v n left right) ∷ [] =
    c.in_ok-push.ensures.items ∙ ap (λ x. me.later.items ++ x ∷ [])
    (ap (λ m. item m c.right.result) c.len.ensures ∙ ap (item (length me.facts)) (c.right.ensures ∙ ap (λ w. right_side w n left right) op.0)) in (
      done.0,
      done.1,
      stands_by me.version me.tree.now c.enter_side.new.facts c.push.new.self.items me.is_open c.if-not-self.false v t done.0 op.0 op.1
          (subst Q (sym same) done.2),
    )
