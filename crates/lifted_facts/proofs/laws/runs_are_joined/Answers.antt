use Rattle.lifted_facts.proofs.RunLaws.{runs_then, runs_cut}
use Rattle.lifted_facts.proofs.laws.runs_are_joined.Goals as goal

pub returns : goal.returns
returns c = λ k xs ys opens rest. (λ r. runs_cut k xs ys opens rest r, λ r. runs_then k xs ys opens r.0 rest r.1 r.2)
