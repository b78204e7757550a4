use Rattle.solver.specs.{Spelled.{spelled}, Places.{denied_positions, asserted_at}}
use Rattle.solver.proofs.HasAsserted.{asserted_clash}
use Rattle.solver.proofs.search.enter.enter_side.Goals as goal

pub returns-in-Some-clause-entered : goal.returns-in-Some-clause-entered
returns-in-Some-clause-entered g c =
    let t = spelled c.args.tree.now.rows in
    let side = c.args.side in
    let old = c.args.asserted.now in
    let first = denied_positions t side.negated side.denied in
    asserted_clash t first (asserted_at t side.negated side.root) old c.in-Some.clash (rw c.in-Some.is at c.in_ok-clash.ensures.entered)
