use Rattle.std.proofs.Common.{◌≡◌, ◌++◌, ◌∷◌, [], length, ap, sym, ◌∙◌, arith}
use Rattle.pc_ground.specs.Refutes.{literals_of}
use Rattle.order_graph.specs.Clashes.{leaf_of}
use Rattle.solver.specs.{Renamed.{node_at, renamed_leaf}, Spelled.{spelled}, Places.{side_positions}, Leaves.{clash_step}}
use Rattle.solver.specs.{Opens.{positions, opens}, Weights.{weight}}
use Rattle.solver.proofs.{ClashLeaf.{has_nodes, clash_closes}, KeepsState.{closed_kept, closed_all, entered_kept}}
use Rattle.solver.proofs.HasDescended.{clash_in, longer_push, lighter_closed, next_inside}
use Rattle.solver.proofs.search.descend.descend.Goals as goal

pub close-requires-clause-below : goal.close-requires-clause-below
close-requires-clause-below g c =
    let rows = c.args.tree.now.rows in
    let numbered = c.len-positions.ensures.numbered in
    clash_in (length c.args.tree.now.nodes) rows (positions c.loop-branch.branch.asserted ++ side_positions (spelled rows) c.loop-branch.side)
    c.in-Some.clash numbered.tree numbered.below (rw c.in-Some.is at c.in_ok-clash.ensures.entered)

pub close-requires-clause-leaf : goal.close-requires-clause-leaf
close-requires-clause-leaf g c =
    let t = spelled c.args.tree.now.rows in
    has_nodes (node_at c.args.tree.now.nodes) (literals_of t (positions c.loop-branch.branch.asserted ++ side_positions t c.loop-branch.side))
    (leaf_of c.in-Some.clash) (rw c.in-Some.is at c.in_ok-clash.ensures.entered)

pub returns-in_default-go_back-clause-descended : goal.returns-in_default-go_back-clause-descended
returns-in_default-go_back-clause-descended g c =
    let nodes = c.args.tree.now.nodes in
    let t = spelled c.args.tree.now.rows in
    let b = c.loop-branch.branch in
    let here = b.asserted in
    let more = side_positions t c.loop-branch.side in
    let rest = c.enter_next.ensures.rest in
    let back = c.in_default-go_back.ensures in
    closed_all c.args.version nodes t b.graph here b.later.items b.refutation c.go_back.new.branch.refutation
    (renamed_leaf (node_at nodes) (leaf_of c.in-Some.clash)) more c.loop-branch.invariant.state
    (clash_closes nodes t (positions here ++ more) c.in-Some.clash (rw c.in-Some.is at c.in_ok-clash.ensures.entered))
    (back.1 ∙ c.in_ok-close.ensures ∙ ap (λ ss. ss ++ clash_step nodes c.in-Some.clash ∷ []) rest.steps) (sym rest.later ∙ back.0)

pub loop-branch-preserved : goal.loop-branch-preserved
loop-branch-preserved g c =
    let nodes = c.args.tree.now.nodes in
    let t = spelled c.args.tree.now.rows in
    let b = c.loop-branch.branch in
    let here = b.asserted in
    let more = side_positions t c.loop-branch.side in
    let step = clash_step nodes c.in-Some.clash in
    let entered = c.enter_next.new.branch in
    let back = c.go_back.new.branch in
    let resumed = c.in-Some-go_back.ensures in
    let next = resumed.next in
    let closes = clash_closes nodes t (positions here ++ more) c.in-Some.clash (rw c.in-Some.is at c.in_ok-clash.ensures.entered) in
    let popped : b.later.items ≡ back.later.items ++ next ∷ [] = sym c.enter_next.ensures.rest.later ∙ resumed.popped in
    let stepped : back.refutation ≡ b.refutation ++ step ∷ [] =
    resumed.steps ∙ c.in_ok-close.ensures ∙ ap (λ ss. ss ++ step ∷ []) c.enter_next.ensures.rest.steps in
    let is_later = next_inside c.args.version c.args.tree.now b more back.later.items next c.loop-branch.invariant.state popped in
    let gone =
    closed_kept c.args.version nodes t b.graph entered.graph back.graph here entered.asserted back.asserted
    b.later.items back.later.items b.refutation back.refutation (renamed_leaf (node_at nodes) (leaf_of c.in-Some.clash)) next more
    c.loop-branch.invariant.state closes stepped popped c.in_ok-clash.ensures.further c.in_ok-clash.ensures.kept
    resumed.cut resumed.positions in
    let lighter = lighter_closed t _ _ (positions here ++ more) _ gone.1 c.loop-branch.invariant.lighter in record {
      inside = rw resumed.side_is at is_later.side;
      state = rw resumed.side_is at gone.0;
      lighter = rw resumed.side_is at lighter;
      longer = longer_push c.args.branch.now.refutation b.refutation back.refutation step c.loop-branch.invariant.longer stepped;
    }

pub returns-clause-descended : goal.returns-clause-descended
returns-clause-descended g c =
    let nodes = c.args.tree.now.nodes in
    let t = spelled c.args.tree.now.rows in
    let b = c.loop-branch.branch in
    let entered = c.enter_next.new.branch in
    let more = side_positions t c.loop-branch.side in
    let rest = c.enter_next.ensures.rest in
    let came = rw c.in_default.is at c.in_ok-clash.ensures.entered in
    let state = rw (← rest.later, ← rest.steps) at c.loop-branch.invariant.state in
    let kept =
    entered_kept c.args.version nodes t b.graph entered.graph b.asserted entered.asserted entered.later.items entered.refutation more
    state came.0 came.1 c.in_ok-clash.ensures.further in
    let same = ap (λ ls. weight t (opens t (positions b.asserted ++ more) b.asserted ls)) rest.later in
    (kept.0, omega (arith, ap (weight t) kept.1, same, c.loop-branch.invariant.lighter))
