use Rattle.std.proofs.Common.{◌≡◌, ◌+◌, ◌∙◌, refl, sym, ap, arith}
use Rattle.pc_ground.specs.{declared.{node_key.NodeKey.{NodeKey}, row.{Row.{Row}, RowKind.TheVariants.{Or}}}, Tree.{turned}, Rows.{turned_kind, turned_row}}
use Rattle.pc_ground.specs.Refutes.{signed}
use Rattle.tree_check.proofs.{BranchFacts.{position_of_fact, fact_of_or}, OrRows.{is_or, has_sides, left_inside, right_inside, part_inside, turned_at}}
use Rattle.tree_check.proofs.children.children.Goals as goal

pub returns-then-position-len-clause-sides : goal.returns-then-position-len-clause-sides
returns-then-position-len-clause-sides c = λ t ps flat has a b s.
    omega (arith, part_inside c.args.negated c.args.tree.now t _ c.args.position flat s.1, c.if-position-len.true, c.len.ensures.count)

pub returns-then-not-has-clause-sides : goal.returns-then-not-has-clause-sides
returns-then-not-has-clause-sides c = λ t ps flat has a b s.
    let none = c.has.ensures.1 (fact_of_or t c.args.facts.now ps has (signed c.args.negated c.args.position) a b s.1 s.0) in
    let no = c.if-not-has.true in
    cc

pub row-requires-in-Or : goal.row-requires-in-Or
row-requires-in-Or c =
    let is : turned_kind c.args.negated c.row.result.kind ≡ Or = ap (λ (x : Row NodeKey). x.kind) (sym c.negate_if.ensures) ∙ c.in-Or.is in
    left_inside c.args.negated c.args.tree.now c.args.position c.row.result c.row.ensures.one_tree c.row.ensures.row is

pub overflow_add-right : goal.overflow_add-right
overflow_add-right c =
    let is : turned_kind c.args.negated c.row.result.kind ≡ Or = ap (λ (x : Row NodeKey). x.kind) (sym c.negate_if.ensures) ∙ c.in-Or.is in
    let inside = right_inside c.args.negated c.args.tree.now c.args.position c.row.result c.row-in-Or.result c.row.ensures.one_tree c.row.ensures.row is
    c.row-in-Or.ensures.row in
    omega (arith, c.len.ensures.bound, inside)

pub returns-in-Or-clause-inside : goal.returns-in-Or-clause-inside
returns-in-Or-clause-inside c =
    let is : turned_kind c.args.negated c.row.result.kind ≡ Or = ap (λ (x : Row NodeKey). x.kind) (sym c.negate_if.ensures) ∙ c.in-Or.is in (
      left_inside c.args.negated c.args.tree.now c.args.position c.row.result c.row.ensures.one_tree c.row.ensures.row is,
      right_inside c.args.negated c.args.tree.now c.args.position c.row.result c.row-in-Or.result c.row.ensures.one_tree c.row.ensures.row is
          c.row-in-Or.ensures.row,
    )

pub returns-in-Or-clause-sides : goal.returns-in-Or-clause-sides
returns-in-Or-clause-sides c = λ t ps flat has.
    let n = c.args.negated in let p = c.args.position in let rows = c.args.tree.now in
    let is : turned_kind n c.row.result.kind ≡ Or = ap (λ (x : Row NodeKey). x.kind) (sym c.negate_if.ensures) ∙ c.in-Or.is in
    let s = has_sides (turned n t) p (turned_row n c.row.result) (turned_row n c.row-in-Or.result) (turned_at n rows t p c.row.result flat c.row.ensures.row) is
    (turned_at n rows t (p + 1) c.row-in-Or.result flat c.row-in-Or.ensures.row) in
    record {
      first = s.left;
      second = s.right;
      is_split = (position_of_fact t c.args.facts.now ps has (signed n p) (c.has.ensures.0 c.if-not-has.false), s.at);
      at_left = refl;
      at_right = ap (λ m. p + 1 + m) s.skips;
    }

pub returns-in_default-clause-sides : goal.returns-in_default-clause-sides
returns-in_default-clause-sides c = λ t ps flat has a b s.
    let n = c.args.negated in let p = c.args.position in
    let or = is_or (turned n t) p a b (turned_row n c.row.result) s.1 (turned_at n c.args.tree.now t p c.row.result flat c.row.ensures.row) in
    c.in_default.not-Or (ap (λ (x : Row NodeKey). x.kind) c.negate_if.ensures ∙ or)
