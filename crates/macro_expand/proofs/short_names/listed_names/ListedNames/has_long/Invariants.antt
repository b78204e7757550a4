use Rattle.std.{proofs.Common.{◌≡◌, false, take}, specs.List.{list_any}}
use Rattle.macro_expand.specs.Numbered.{is_long}
use Rattle.macro_expand.proofs.short_names.listed_names.ListedNames.has_long.Given as goal

abbrev pub invariant-loop-name : goal.invariant-loop-name
invariant-loop-name l = list_any (λ name. is_long name.now) (take l.name-index l.name-items) ≡ false
