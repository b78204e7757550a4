use Rattle.std.proofs.{Common.{◌≢◌, ap, sym, ◌∙◌, map, rules}, lemmas.List.{take-map}}
use Rattle.pc_ground.specs.Keys.{row_node}
use Rattle.normal_form.{specs.Spine.{constant_tree, junction_of, neutral}, proofs.JunctionOf.{cut_decided, decided_left, decided_right}}
use Rattle.normal_form.proofs.rows.fold_constant.Goals as goal

pub returns-clause-left : goal.returns-clause-left
returns-clause-left c = λ first t from written.
    let old = c.args.rows.now.items in
    let other : c.args.value ≢ neutral c.args.junction = search rules in
    let cut =
    cut_decided c.args.value first (map row_node old) c.args.start t (junction_of c.args.junction (constant_tree c.args.value) t)
    (decided_left c.args.junction c.args.value t other) from written.1 in
    (cut.0, ap (map row_node) c.truncate.ensures.items ∙ sym (take-map row_node c.args.start old) ∙ cut.1)

pub returns-clause-right : goal.returns-clause-right
returns-clause-right c = λ first t from written.
    let old = c.args.rows.now.items in
    let other : c.args.value ≢ neutral c.args.junction = search rules in
    let cut =
    cut_decided c.args.value first (map row_node old) c.args.start t (junction_of c.args.junction t (constant_tree c.args.value))
    (decided_right c.args.junction c.args.value t other) from written.1 in
    (cut.0, ap (map row_node) c.truncate.ensures.items ∙ sym (take-map row_node c.args.start old) ∙ cut.1)
