use Rattle.std.proofs.Common.{map, take, All}
use Rattle.macro_expand.specs.Numbers.{name_bytes, IsAmong}
use Rattle.macro_expand.proofs.short_names.listed_names.ListedNames.distinct_names.Given as goal

abbrev pub invariant-loop-name : goal.invariant-loop-name
invariant-loop-name l = All (λ name. IsAmong (map name_bytes l.once.keys) name.now) (take l.name-index l.name-items)
