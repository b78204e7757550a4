use Rattle.std.proofs.Common.{ap, ◌∙◌, [], ◌∷◌, ◌++◌}
use Rattle.pc_common.specs.Steps.{close, false_step}
use Rattle.pc_ground.proofs.FlatRows.{size_pos}
use Rattle.solver.{specs.Spelled.{spelled}, proofs.IsTurn.{false_refuted, whole_false, not_false, first_kept, no_false}}
use Rattle.solver.proofs.search.find_first.Goals as goal

pub row-root-requires : goal.row-root-requires
row-root-requires g c = size_pos (spelled c.args.tree.now.rows)

pub returns-in-False : goal.returns-in-False
returns-in-False g c =
    let rows = c.args.tree.now.rows in
    false_refuted c.args.version c.args.tree.now.nodes (spelled rows) c.close_leaf.new.self
    (whole_false rows c.row-root.result c.row-root.ensures.numbered.tree c.row-root.ensures.row c.in-False.is)
    (c.in_ok-close_leaf.ensures ∙ ap (λ ss. ss ++ close false_step ∷ []) c.requires.steps)

pub find-requires : goal.find-requires
find-requires g c =
    let rows = c.args.tree.now.rows in record {
      side = (size_pos (spelled rows), tt);
      no_false = no_false (spelled rows) c.row-root.ensures.numbered.folded
          (not_false rows c.row-root.result c.row-root.ensures.numbered.tree c.row-root.ensures.row c.in_default.not-False);
      state = first_kept c.args.version c.args.tree.now c.args.branch.now c.requires;
    }
