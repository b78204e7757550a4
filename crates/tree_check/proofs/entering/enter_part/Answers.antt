use Rattle.std.proofs.{Common.{◌∙◌, ap, sym}, lemmas.Result.{on_ok_weaker}}
use Rattle.pc_ground.specs.{declared.{node_key.NodeKey.{NodeKey}, row.Row.{Row}}, Keys.{key_node, literal_node, renamed_kind, row_node}, Rows.{turned_row}}
use Rattle.tree_check.proofs.{OrRows.{turned_here}, SideFacts.{entered_again, entered_all, entered_literal}}
use Rattle.tree_check.proofs.entering.enter_part.Goals as goal

pub returns-in-Lit-clause-first : goal.returns-in-Lit-clause-first
returns-in-Lit-clause-first c = on_ok_weaker c.add_literal.result (λ h. h.same_first) c.add_literal.ensures

pub returns-in-Lit-clause-entered : goal.returns-in-Lit-clause-entered
returns-in-Lit-clause-entered c =
    let n = c.args.negated in let rows = c.args.tree.now in
    let r = turned_row n c.row.result in
    on_ok_weaker c.add_literal.result
    (λ h t ps flat b. entered_literal t n rows (row_node r) (literal_node c.in-Lit.literal) c.args.facts.now c.add_literal.new.facts ps c.args.root
    flat (turned_here n rows c.args.root c.row.result c.row.ensures.row)
    (ap (λ (x : Row NodeKey). renamed_kind key_node x.kind) (sym c.negate_if.ensures) ∙ ap (renamed_kind key_node) c.in-Lit.is) h b) c.add_literal.ensures

pub returns-then-has-clause-entered : goal.returns-then-has-clause-entered
returns-then-has-clause-entered c = λ t ps flat b. entered_again t c.args.facts.now ps c.args.negated c.args.root (c.has.ensures.0 c.if-has.true) b

pub returns-else-has-clause-entered : goal.returns-else-has-clause-entered
returns-else-has-clause-entered c =
    on_ok_weaker c.add_part.result (λ h t ps flat b. entered_all t c.args.facts.now c.add_part.new.facts ps c.args.negated c.args.root (h t flat) b)
    c.add_part.ensures.added
