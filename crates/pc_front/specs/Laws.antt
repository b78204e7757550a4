-- What holds of the bytes of every model.
use Rattle.std.specs.Prelude.{◌≡◌, ◌⊎◌, ℕ, List}
use Rattle.pc_common.specs.declared.{place.Place.{Place}, fault.FaultKind.{FaultKind}}
use Rattle.pc_syntax.specs.Written.{WrittenModel}
use Rattle.pc_front.specs.{ModelFront.{ModelOf, IsModelFault}, Front.{SaysModel}}

-- the bytes say a model without a fault, or have a first fault
abbrev pub HasModelOrFault : List ℕ → Type 0
HasModelOrFault bytes =
    ((m : WrittenModel) × SaysModel bytes m) ⊎ ((kind : FaultKind) × (at : Place) × IsModelFault bytes kind at)

abbrev pub HasOneModel : List ℕ → Type 0
HasOneModel bytes = (m n : WrittenModel) → ModelOf bytes m → ModelOf bytes n → m ≡ n

abbrev pub HasOneModelFault : List ℕ → Type 0
HasOneModelFault bytes =
    (j k : FaultKind) (p q : Place) → IsModelFault bytes j p → IsModelFault bytes k q → (j ≡ k) × (p ≡ q)

-- not both
abbrev pub ModelExcludesFault : List ℕ → Type 0
ModelExcludesFault bytes =
    (m : WrittenModel) → SaysModel bytes m → (kind : FaultKind) (at : Place) → IsModelFault bytes kind at → ⊥
