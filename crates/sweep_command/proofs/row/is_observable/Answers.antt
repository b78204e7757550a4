use Rattle.std.proofs.Common.{◌∙◌, sym}
use Rattle.pc_ground.specs.{Stages.{plain_axioms}, GroundTree.{closed_ground_tree}, declared.version.Version.TheVariants.{One}}
use Rattle.sweep_command.proofs.RowAnswers.{row_folded, answered}
use Rattle.sweep_command.proofs.row.is_observable.Goals as goal

pub search-requires-clause-folded : goal.search-requires-clause-folded
search-requires-clause-folded c = λ t is. row_folded (plain_axioms c.args.axioms.now) c.args.case.now t (sym c.in_ok-tree.ensures ∙ is)

pub returns : goal.returns
returns c =
    let axioms = plain_axioms c.args.axioms.now in
    let case = c.args.case.now in
    rw c.has_graph.ensures (answered axioms case One c.in_ok-numbering.numbering c.in_ok-found.found
    (c.in_ok-found.ensures (closed_ground_tree case axioms) c.in_ok-tree.ensures))
