use Rattle.lifted_facts.proofs.Sound.{no_world}
use Rattle.lifted_facts.proofs.laws.lifted_is_sound.Goals as goal

pub returns : goal.returns
returns c = λ k axioms steps r w is_world is. no_world k w is_world axioms steps r is
