use Rattle.solver.specs.Opens.{positions}
use Rattle.solver.proofs.IsTurn.{witness, candidate_small}
use Rattle.solver.proofs.search.find.find.Goals as goal

pub returns-in-Some-clause-found : goal.returns-in-Some-clause-found
returns-in-Some-clause-found g c =
    let descended = rw c.if-not-is_open.false at c.in_ok-is_open.ensures.descended in
    let rows = c.args.tree.now.rows in
    let candidate = rw c.in-Some.is at c.in_ok-place.ensures in record {
      no_false = c.requires.no_false;
      state = descended.0;
      candidate = candidate;
      small = candidate_small rows (positions c.descend.new.branch.asserted) c.in-Some.place c.row-root.ensures.numbered.tree c.row-root.ensures.bound candidate;
    }

pub returns-clause-found : goal.returns-clause-found
returns-clause-found g c =
    let descended = rw c.if-not-is_open.false at c.in_ok-is_open.ensures.descended in
    witness c.args.version c.args.tree.now c.descend.new.branch c.in_ok-shown.shown c.row-root.ensures.numbered c.requires.no_false descended.0
    c.len-asserted_so_far.ensures.graph (rw c.in_default.is at c.in_ok-place.ensures) c.in_ok-shown.ensures.nodes c.in_ok-shown.ensures.edges
