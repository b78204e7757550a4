-- A fault of a model file: what is wrong, and where.
use Rattle.std.specs.{Prelude.{List, [], ◌∷◌, Option, None}, Option.{option_or}}
use Rattle.pc_common.specs.declared.{place.Place.{Place}, fault.FaultKind.{FaultKind}}

abbrev pub Fault : Type 0
Fault = FaultKind × Place

-- the first fault among a list's members
abbrev pub first_fault : {A : Type 0} → (A → Option Fault) → List A → Option Fault
first_fault fault [] = None
first_fault fault (x ∷ xs) = option_or (fault x) (first_fault fault xs)
