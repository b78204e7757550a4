-- What a choice of axioms says of a model as written.
use Rattle.std.specs.Prelude.{◌≡◌, None}
use Rattle.pc_common.specs.{Case.{Case}, World.{Node, World}}
use Rattle.pc_syntax.specs.{Written.{WrittenModel}, Observable.{axioms_of, macros_of, satisfies, setting}, Truth.{are_true}, ModelFault.{first_model_fault}}
use Rattle.axiom_core.specs.{Chosen.{Choice, taken}, ModelWith.{model_with}}

-- a world satisfies the model with some of its axioms exactly where these axioms are true in it, with all macros of the file
abbrev pub SatisfiesWith : Type 0
SatisfiesWith =
    (keep : Choice) (m : WrittenModel) (c : Case) (w : World Node)
    → satisfies (model_with keep m) c w ≡ are_true (setting m c w) (macros_of m) (taken keep (axioms_of m))

-- a model without faults has none with some of its axioms
abbrev pub FaultlessWith : Type 0
FaultlessWith = (keep : Choice) (m : WrittenModel) → first_model_fault m ≡ None → first_model_fault (model_with keep m) ≡ None
