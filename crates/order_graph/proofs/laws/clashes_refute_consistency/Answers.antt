use Rattle.order_graph.proofs.IsClash.{clashes_refute}
use Rattle.order_graph.proofs.laws.clashes_refute_consistency.Goals as goal

pub returns : goal.returns
returns c = clashes_refute
