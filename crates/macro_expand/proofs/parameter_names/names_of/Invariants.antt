use Rattle.std.proofs.Common.{◌≡◌, map, take}
use Rattle.macro_expand.proofs.parameter_names.names_of.Given as goal

abbrev pub invariant-loop-word : goal.invariant-loop-word
invariant-loop-word l = l.names ≡ map (λ w. w.name) (take l.word-index l.word-items)
