use Rattle.std.proofs.Common.{refl, []}
use Rattle.pc_ground.{specs.Refutes.{IsPartial}, proofs.Refuted.{refutation_sound}}
use Rattle.solver.{specs.{Renamed.{tree_over}, Spelled.{spelled}}, proofs.IsTurn.{searching}}
use Rattle.solver.proofs.search.settle.Goals as goal

pub returns-in-Refuted-clause-turn : goal.returns-in-Refuted-clause-turn
returns-in-Refuted-clause-turn c =
    let t = tree_over c.args.tree.nodes (spelled c.args.tree.rows) in
    let closed : IsPartial c.args.version t c.into_refutation.result [] = rw c.into_refutation.ensures (rw c.in-Refuted.is at c.requires) in
    (closed, refutation_sound c.args.version t c.into_refutation.result closed)

pub returns-in-Undecided-clause-turn : goal.returns-in-Undecided-clause-turn
returns-in-Undecided-clause-turn c =
    (refl, refl, refl, searching c.args.version c.args.tree c.args.branch c.in-Undecided.first _ (rw c.in-Undecided.is at c.requires) refl)
