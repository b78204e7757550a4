use Rattle.std.{proofs.{Common.{◌≤◌, List, [], length, ap, sym, ◌∙◌, arith}, lemmas.List.{drop_all}}, specs.List.{flat_map}}
use Rattle.pc_common.specs.World.{Node}
use Rattle.pc_ground.specs.{declared.row.Row.{Row}, Keys.{row_node}}
use Rattle.normal_form.{specs.RowNodes.{numbering_after, nodes_of_row}, proofs.NumberingAfter.{see_more, numbering_after-numbered}}
use Rattle.normal_form.proofs.numbers.number.Goals as goal

pub loop-k-preserved : goal.loop-k-preserved
loop-k-preserved c =
    see_more c.loop-k.numbering c.see_row.new.numbering c.args.tree.now c.loop-k.k (row_node c.row.result) (omega arith)
    c.row.ensures.row c.in_ok-see_row.ensures
    ∙ c.loop-k.invariant

pub returns : goal.returns
returns c = λ t e.
    let all : length c.args.tree.now ≤ c.loop-k.k = omega arith in
    ap (λ (rows : List (Row Node)). numbering_after c.loop-k.numbering (flat_map nodes_of_row rows)) (sym (drop_all c.loop-k.k c.args.tree.now all))
    ∙ c.loop-k.invariant ∙ ap (λ (rows : List (Row Node)). numbering_after [] (flat_map nodes_of_row rows)) e ∙ numbering_after-numbered t
