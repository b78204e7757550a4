use Rattle.std.proofs.Common.{◌+◌, ◌∙◌, ℕ, arith, sym, ap, subst}
use Rattle.pc_ground.specs.{declared.{node_key.NodeKey.{NodeKey}, row.Row.{Row}}, Keys.{row_node}, Refutes.{signed}, Walks.{stride}, Rows.{turned_row}}
use Rattle.tree_check.{specs.Facts.{facts_of_kind, HasAdded}, proofs.OrRows.{turned_here}}
use Rattle.tree_check.proofs.SideFacts.{HasWalked, walked_start, walked_step, walked_within, walked_all, walked_first, row_stride, stride_node}
use Rattle.tree_check.proofs.entering.add_part.Goals as goal

pub overflow_add-end : goal.overflow_add-end
overflow_add-end c =
    let s = walked_start c.args.tree.now c.args.negated c.args.root (row_node c.row.result) c.args.facts.now c.row.ensures.one_tree c.row.ensures.row in
    omega (arith, s.0, c.show_size.ensures.bound)

pub loop-at-init : goal.loop-at-init
loop-at-init c =
    let s = walked_start c.args.tree.now c.args.negated c.args.root (row_node c.row.result) c.args.facts.now c.row.ensures.one_tree c.row.ensures.row in
    record { end = s.0; walked = s.1 }

pub loop-at-smaller : goal.loop-at-smaller
loop-at-smaller c =
    let n = c.args.negated in let row = c.row-in-loop-at.result in
    let r = turned_row n row in
    let here = turned_here n c.args.tree.now c.loop-at.at row c.row-in-loop-at.ensures.row in
    let step = c.stride-at.ensures ∙ ap (λ (x : Row NodeKey). stride x) c.negate_if-row.ensures ∙ sym (stride_node r.kind r.skip) in
    omega (arith, c.loop-at-test.true, step, row_stride c.args.tree.now n c.loop-at.at (row_node r) c.row-in-loop-at.ensures.one_tree here)

pub loop-at-preserved : goal.loop-at-preserved
loop-at-preserved c =
    let n = c.args.negated in let rows = c.args.tree.now in let at = c.loop-at.at in
    let row = c.row-in-loop-at.result in
    let r = turned_row n row in
    let before = c.loop-at.invariant in
    let A : Row NodeKey → Type 0 = λ x. HasAdded c.loop-at.facts (facts_of_kind (signed n at) (row_node x).kind) c.add_row.new.facts in
    let here = turned_here n rows at row c.row-in-loop-at.ensures.row in
    let next = walked_step rows n _ _ at _ _ c.add_row.new.facts (row_node r) before.walked c.loop-at-test.true here
    (subst A c.negate_if-row.ensures c.in_ok-add_row.ensures) in
    let step = c.stride-at.ensures ∙ ap (λ (x : Row NodeKey). stride x) c.negate_if-row.ensures ∙ sym (stride_node r.kind r.skip) in
    let P : ℕ → Type 0 = λ m. HasWalked rows n c.args.root (c.args.root + c.row.result.skip) (at + m) c.args.facts.now c.add_row.new.facts in
    record { end = before.end; walked = subst P (sym step) next }

pub returns-clause-first : goal.returns-clause-first
returns-clause-first c = walked_first _ _ _ _ _ _ _ c.loop-at.invariant.walked

pub returns-clause-added : goal.returns-clause-added
returns-clause-added c = λ t flat. walked_all _ _ _ _ _ _ _ c.loop-at.invariant.walked c.loop-at-test.false t flat

pub overflow_add-at : goal.overflow_add-at
overflow_add-at c =
    let n = c.args.negated in let rows = c.args.tree.now in let at = c.loop-at.at in
    let row = c.row-in-loop-at.result in
    let r = turned_row n row in
    let before = c.loop-at.invariant in
    let A : Row NodeKey → Type 0 = λ x. HasAdded c.loop-at.facts (facts_of_kind (signed n at) (row_node x).kind) c.add_row.new.facts in
    let here = turned_here n rows at row c.row-in-loop-at.ensures.row in
    let next = walked_step rows n _ _ at _ _ c.add_row.new.facts (row_node r) before.walked c.loop-at-test.true here
    (subst A c.negate_if-row.ensures c.in_ok-add_row.ensures) in
    let step = c.stride-at.ensures ∙ ap (λ (x : Row NodeKey). stride x) c.negate_if-row.ensures ∙ sym (stride_node r.kind r.skip) in
    omega (arith, walked_within _ _ _ _ _ _ _ next, before.end, step, c.show_size.ensures.bound)
