use Rattle.std.proofs.Common.{◌≡◌, ◌++◌, take, map}
use Rattle.macro_expand.proofs.short_names.listing.list_words.Given as goal

abbrev pub invariant-loop-word : goal.invariant-loop-word
invariant-loop-word l = l.names ≡ l.initial.names ++ map (λ w. w.name) (take l.word-index l.words)
