-- The set flags so far have their numbers.
use Rattle.std.proofs.Common.{◌≡◌}
use Rattle.axiom_core.specs.{Chosen.{flagged}, Choices.{places}}
use Rattle.axiom_core.proofs.shrinking.numbers_of.Given as goal

abbrev pub invariant-loop-k : goal.invariant-loop-k
invariant-loop-k l = l.kept ≡ places (flagged l.flags) l.k
