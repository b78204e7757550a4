use Rattle.std.proofs.Common.{sym}
use Rattle.graph_text.proofs.open_graph.OpenGraph.graph.Goals as goal

pub returns-clause-ends : goal.returns-clause-ends
returns-clause-ends c = rw (sym c.self.view_is) c.self.invariant.ends
