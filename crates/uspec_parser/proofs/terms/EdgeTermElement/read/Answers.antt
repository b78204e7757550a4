use Rattle.std.proofs.{Common.{ap, arith, length}, lemmas.Result.{on_ok_weaker}}
use Rattle.uspec_parser.proofs.Shorter.{edge_no_longer}
use Rattle.uspec_parser.proofs.terms.EdgeTermElement.read.Goals as goal

pub returns-clause-shorter : goal.returns-clause-shorter
returns-clause-shorter c = on_ok_weaker c.edge.result (λ rest. let same = ap length rest in omega (arith, edge_no_longer c.args.cursor.now)) c.edge.ensures.rest
