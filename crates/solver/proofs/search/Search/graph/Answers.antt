use Rattle.solver.proofs.IsTurn.{searching}
use Rattle.solver.proofs.search.Search.graph.Goals as goal

pub returns-clause-searching : goal.returns-clause-searching
returns-clause-searching c = (let s = c.self.inside in searching s.version s.tree s.branch s.first _ c.self.invariant c.self.view_is)
