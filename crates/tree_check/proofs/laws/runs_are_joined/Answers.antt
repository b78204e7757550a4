use Rattle.tree_check.proofs.Runs.{runs_then, runs_cut}
use Rattle.tree_check.proofs.laws.runs_are_joined.Goals as goal

pub returns : goal.returns
returns c = λ v t xs ys a d. (λ r. runs_cut v t xs ys a d r, λ r. runs_then v t xs ys a r.0 d r.1 r.2)
