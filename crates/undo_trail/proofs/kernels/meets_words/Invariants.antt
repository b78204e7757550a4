use Rattle.undo_trail.proofs.MeetsWords.{HasMet}
use Rattle.undo_trail.proofs.kernels.meets_words.Given as goal

abbrev pub invariant-loop-k : goal.invariant-loop-k
invariant-loop-k l = HasMet l.a l.b l.k l.met
