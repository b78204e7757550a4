use Rattle.solver.proofs.Shown.{edge_noted, same_pair}
use Rattle.solver.proofs.search.answer.note_edge.Goals as goal

pub returns-in_ok-insert : goal.returns-in_ok-insert
returns-in_ok-insert c = edge_noted _ same_pair c.args.pairs.now.keys c.insert.new.self.keys c.args.literal c.in-Edge.a
    c.in-Edge.b c.in-Edge.is c.in_ok-insert.ensures.keys
