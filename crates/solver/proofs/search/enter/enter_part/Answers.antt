use Rattle.std.proofs.{Common.{◌++◌, refl, sym, ap, ◌∙◌, arith}, Math.Seq.{take-length}}
use Rattle.pc_ground.specs.{Tree.{turned}, Rows.{turned_rows}, Refutes.{all_signed, signed, subtree_at}}
use Rattle.solver.specs.{Spelled.{spelled}, Places.{asserted_in, asserted_at}, Opens.{positions}}
use Rattle.solver.proofs.IsSpelled.{turned_flat, turned_at}
use Rattle.solver.proofs.HasAsserted.{walk_start, walk_step, positions_push, literals_push, further_same, further_more, kept_push, part_clash, whole_push, stride_pos, turned_below, row_below}
use Rattle.solver.proofs.search.enter.enter_part.Goals as goal

pub overflow_add-end : goal.overflow_add-end
overflow_add-end g c =
    let start = walk_start c.args.tree.now.rows c.args.negated c.args.root c.row.result c.row.ensures.numbered.tree c.requires.root c.row.ensures.row in
    omega (arith, start.0, c.row.ensures.bound)

pub loop-at-init : goal.loop-at-init
loop-at-init g c =
    let rows = c.args.tree.now.rows in
    let n = c.args.negated in
    let start = walk_start rows n c.args.root c.row.result c.row.ensures.numbered.tree c.requires.root c.row.ensures.row in record {
      end = start.0;
      walk = (asserted_in (subtree_at (turned n (spelled rows)) c.args.root) c.args.root, start.1, refl);
      literals = c.requires.literals;
      further = further_same c.args.graph.now;
      kept = take-length c.args.asserted.now;
    }

pub enter_row-requires-clause-below : goal.enter_row-requires-clause-below
enter_row-requires-clause-below g c =
    let here = c.loop-at.invariant in
    let below = rw (← (here.further.same_nodes ∙ c.requires.nodes)) at c.row.ensures.numbered.below in
    turned_below c.loop-at.graph.nodes c.args.negated c.row-in-loop-at.result c.negate_if-row.result
    (row_below c.loop-at.graph.nodes c.args.tree.now.rows c.loop-at.at c.row-in-loop-at.result below c.row-in-loop-at.ensures.row)
    c.negate_if-row.ensures

pub returns-in-Some-clause-entered : goal.returns-in-Some-clause-entered
returns-in-Some-clause-entered g c =
    let rows = c.args.tree.now.rows in
    let n = c.args.negated in
    let row = c.negate_if-row.result in
    let here = c.loop-at.invariant in
    let at = turned_at n rows c.loop-at.at c.row-in-loop-at.result row c.row-in-loop-at.ensures.row c.negate_if-row.ensures in
    let step = walk_step (turned_rows n rows) _ c.loop-at.at here.walk.0 row here.walk.1 c.loop-at-test.true at in
    let old = positions c.loop-at.asserted in
    let entered = rw c.in-Some.is at c.in_ok-clash.ensures.entered in
    let whole = positions c.args.asserted.now ++ asserted_at (spelled rows) n c.args.root in
    part_clash rows (signed n c.loop-at.at) row old (all_signed n step.0) whole c.loop-at.graph.literals c.in-Some.clash
    c.row.ensures.numbered.tree at here.literals
    (ap (λ ps. old ++ all_signed n ps) (sym step.1) ∙ here.walk.2) entered.1

pub overflow_add-at : goal.overflow_add-at
overflow_add-at g c =
    let rows = c.args.tree.now.rows in
    let n = c.args.negated in
    let here = c.loop-at.invariant in
    let at = turned_at n rows c.loop-at.at c.row-in-loop-at.result c.negate_if-row.result c.row-in-loop-at.ensures.row c.negate_if-row.ensures in
    let step = walk_step (turned_rows n rows) _ c.loop-at.at here.walk.0 c.negate_if-row.result here.walk.1 c.loop-at-test.true at in
    omega (arith, step.3, c.stride-at.ensures, here.end, c.row-in-loop-at.ensures.bound)

pub loop-at-preserved : goal.loop-at-preserved
loop-at-preserved g c =
    let rows = c.args.tree.now.rows in
    let n = c.args.negated in
    let row = c.negate_if-row.result in
    let here = c.loop-at.invariant in
    let at = turned_at n rows c.loop-at.at c.row-in-loop-at.result row c.row-in-loop-at.ensures.row c.negate_if-row.ensures in
    let step = walk_step (turned_rows n rows) _ c.loop-at.at here.walk.0 row here.walk.1 c.loop-at-test.true at in
    let old = c.loop-at.asserted in
    let new = c.enter_row.new.asserted in
    let entered = rw c.in_default.is at c.in_ok-clash.ensures.entered in record {
      end = here.end;
      walk = (
        step.0,
        rw c.stride-at.ensures step.2,
        whole_push new old (record { negated = n; position = c.loop-at.at }) here.walk.0 step.0 _ entered.0 step.1 here.walk.2,
      );
      literals = literals_push rows (signed n c.loop-at.at) row (positions old) (positions new) c.loop-at.graph.literals
          c.enter_row.new.graph.literals c.row.ensures.numbered.tree
          at here.literals entered.1 (positions_push new old (record { negated = n; position = c.loop-at.at }) entered.0);
      further = further_more _ _ _ here.further c.in_ok-clash.ensures.further;
      kept = kept_push _ old new _ here.kept entered.0;
    }

pub loop-at-smaller : goal.loop-at-smaller
loop-at-smaller g c =
    let rows = c.args.tree.now.rows in
    let n = c.args.negated in
    let here = c.loop-at.invariant in
    let row = c.negate_if-row.result in
    let at = turned_at n rows c.loop-at.at c.row-in-loop-at.result row c.row-in-loop-at.ensures.row c.negate_if-row.ensures in
    let step = walk_step (turned_rows n rows) _ c.loop-at.at here.walk.0 row here.walk.1 c.loop-at-test.true at in
    let pos = stride_pos (turned_rows n rows) (turned n (spelled rows)) c.loop-at.at row (turned_flat n rows c.row.ensures.numbered.tree) at in
    omega (arith, step.3, pos, c.stride-at.ensures, c.loop-at-test.true)
