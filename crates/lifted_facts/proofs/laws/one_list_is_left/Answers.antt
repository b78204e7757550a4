use Rattle.lifted_facts.proofs.RunLaws.{runs_one}
use Rattle.lifted_facts.proofs.laws.one_list_is_left.Goals as goal

pub returns : goal.returns
returns c = runs_one
