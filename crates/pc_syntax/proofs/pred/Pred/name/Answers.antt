use Rattle.pc_syntax.proofs.Predicates.{found_by_name}
use Rattle.pc_syntax.proofs.pred.Pred.name.Goals as goal

pub returns-clause-found : goal.returns-clause-found
returns-clause-found c = rw c.spelling.ensures (found_by_name c.args.self)
