use Rattle.std.{proofs.{Common.{ap, sym, ◌∙◌, length}, lemmas.List.Elements.{All-push}}, specs.Prelude.{Some}}
use Rattle.pc_ground.specs.Keys.{renamed_row}
use Rattle.solver.{specs.{Renamed.{node_at}, Below.{IsRowBelow}}, proofs.IsKnown.{map_one_more}}
use Rattle.solver.proofs.tree.numbers.number_rows.Goals as goal

pub loop-k-preserved : goal.loop-k-preserved
loop-k-preserved c =
    let nodes = c.args.numbering.now in record {
      is = map_one_more (renamed_row (node_at nodes)) c.loop-k.rows.items c.push.new.self.items c.number_row.result
          c.args.tree.now c.loop-k.k c.in_ok-push.ensures.items
          c.loop-k.invariant.is (c.row.ensures.row ∙ ap Some (sym c.number_row.ensures.is));
      below = rw c.in_ok-push.ensures.items
          (All-push (IsRowBelow (length nodes)) c.loop-k.rows.items c.number_row.result c.loop-k.invariant.below c.number_row.ensures.below);
    }
