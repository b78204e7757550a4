use Rattle.lifted_check.proofs.PathEnds.{path_at}
use Rattle.lifted_check.proofs.step.path_with.Goals as goal

pub returns-in-len2-up : goal.returns-in-len2-up
returns-in-len2-up c = path_at c.args.numbers.now c.in-len2-up.len_at_least
