-- A predicate's arguments one by one.
use Rattle.std.specs.Prelude.{ℕ, List, slice_get, None, Some}
use Rattle.pc_syntax.specs.{declared.{term.Arg.{Arg}, pred.Takes.{Takes}}, Renaming.{Renaming, renamed_taken}}

-- an argument at this place, where these are taken
unfoldable pub renamed_at : Renaming → List Takes → ℕ → Arg → Arg
renamed_at ρ takes place arg = elim (slice_get takes place) [ None ↦ arg | Some t ↦ renamed_taken ρ t arg ]
