use Rattle.std.proofs.Common.{true, List, reverse, refl, sym, ap, subst, arith}
use Rattle.pc_ground.specs.Refutes.{Branch as TreeBranch}
use Rattle.lifter.specs.{declared.state.{Task.{Task}, Later.{Later}, State.{State}}, States.{branch_of, IsDue}, Progress.{HasClosedFirst, HasFollowed}}
use Rattle.lifter.proofs.LeftBranches.{popped, no_items, kept_none, kept_popped, left_due, left_side, left_none}
use Rattle.lifter.proofs.following.go_on.Goals as goal

-- a branch that only waits to be closed
pub close_due-requires : goal.close_due-requires
close_due-requires c =
    let s = c.loop-next.state in
    let mid : State = record { facts = s.facts; known = s.known; later = c.pop.new.self; steps = s.steps } in
    let k = kept_popped c.args.case.now s mid c.in-Some.next refl c.in-Some.ensures.items c.loop-next.invariant.kept in
    let D : Task → Type 0 = λ u. IsDue c.args.case.now c.in-Some.next u in
    record { proper = k.1; kind = subst D c.in-Close.is k.2 }

pub loop-next-preserved : goal.loop-next-preserved
loop-next-preserved c =
    let case = c.args.case.now in let s = c.loop-next.state in let l = c.in-Some.next in
    let mid : State = record { facts = s.facts; known = s.known; later = c.pop.new.self; steps = c.close_due.new.steps } in
    record {
      kept = (kept_popped case s mid l refl c.in-Some.ensures.items c.loop-next.invariant.kept).0;
      left = λ start opens h.
          let A : List Later → Type 0 = λ ls. HasClosedFirst case c.args.tree.now start (branch_of s) s.known ls s.steps opens in
          left_due case c.args.tree.now start (branch_of s) s.known l (reverse c.pop.new.self.items) s.steps c.close_due.new.steps opens c.in-Close.is
          (subst A (popped s.later.items c.pop.new.self.items l c.in-Some.ensures.items) (c.loop-next.invariant.left start opens h))
          c.in_ok-close_due-in-Close.ensures;
    }

-- one that takes a side
pub enter-requires : goal.enter-requires
enter-requires c =
    let case = c.args.case.now in let s = c.loop-next.state in let l = c.in-Some.next in
    let mid : State = record { facts = s.facts; known = s.known; later = c.pop.new.self; steps = s.steps } in
    let a = c.requires.left in
    let A : List Later → Type 0 = λ ls. HasClosedFirst case c.args.tree.now a.0 (branch_of s) s.known ls s.steps a.1 in
    let n = left_side case c.args.tree.now a.0 (branch_of s) s.known l (reverse c.pop.new.self.items) s.steps a.1 c.in-Side.at c.in-Side.is
    (subst A (popped s.later.items c.pop.new.self.items l c.in-Some.ensures.items) (c.loop-next.invariant.left a.0 a.1 a.2)) in
    record { proper = (kept_popped case s mid l refl c.in-Some.ensures.items c.loop-next.invariant.kept).1; can = (a.0, n.0, n.1, n.3) }

pub returns-in-Side : goal.returns-in-Side
returns-in-Side c =
    let case = c.args.case.now in let s = c.loop-next.state in let l = c.in-Some.next in
    let mid : State = record { facts = s.facts; known = s.known; later = c.pop.new.self; steps = s.steps } in
    record {
      kept = c.in_ok-enter-in-Side.ensures.kept (kept_popped case s mid l refl c.in-Some.ensures.items c.loop-next.invariant.kept).0;
      at = λ start opens h.
          let A : List Later → Type 0 = λ ls. HasClosedFirst case c.args.tree.now start (branch_of s) s.known ls s.steps opens in
          let n = left_side case c.args.tree.now start (branch_of s) s.known l (reverse c.pop.new.self.items) s.steps opens c.in-Side.at c.in-Side.is
          (subst A (popped s.later.items c.pop.new.self.items l c.in-Some.ensures.items) (c.loop-next.invariant.left start opens h)) in
          let P : List TreeBranch → Type 0 = λ os. HasFollowed case c.args.tree.now start c.enter.new.state true os in
          subst P (sym n.2) (c.in_ok-enter-in-Side.ensures.on start n.0 n.1 n.3);
    }

-- none waits
pub returns : goal.returns
returns c =
    let case = c.args.case.now in let s = c.loop-next.state in
    let new : State = record { facts = s.facts; known = s.known; later = c.pop.new.self; steps = s.steps } in
    let none = no_items s.later.items (omega (arith, c.in_default.ensures.cases.0, s.later.ok.0)) in
    record {
      kept = kept_none case s new refl (no_items c.pop.new.self.items (omega (arith, c.in_default.ensures.cases.1, c.pop.new.self.ok.0)))
          c.loop-next.invariant.kept;
      at = λ start opens h.
          left_none case c.args.tree.now start (branch_of s) s.known (reverse s.later.items) s.steps opens (ap reverse none)
          (c.loop-next.invariant.left start opens h);
    }
