-- Sizes and heights that are exact up to the limits.
use Rattle.std.specs.{Prelude.{◌≡◌, ℕ, ◌+◌, ◌<◌, List, Option, Some, None, length, min, slice_get}, Option.{option_or}}
use Rattle.pc_syntax.specs.{declared.limits.TheConstants.{MAX_HEIGHT, MAX_SIZE}, Written.{Written, MacroAt, WrittenItem, axiom_, macro_}, Fault.{Fault}}
use Rattle.pc_syntax.specs.Sizes.{expanded_size, expanded_height, depth_fault, total_fault}
use Rattle.macro_expand.specs.{declared.measure.Measure.{Measure}, Tables.{before}}

abbrev pub capped_measure : ℕ → ℕ → Measure
capped_measure size height = record { size = min size (MAX_SIZE + 1); height = min height (MAX_HEIGHT + 1) }

-- the macros that the formula may name are listed latest first
abbrev pub measure_of : List MacroAt → Written → Measure
measure_of ms w = capped_measure (expanded_size ms w) (expanded_height ms w)

-- the measures of the bodies of the first macros
abbrev pub AreMeasures : List MacroAt → List Measure → Type 0
AreMeasures ms measures =
    (k : ℕ) (m : MacroAt) → k < length measures → slice_get ms k ≡ Some m
    → slice_get measures k ≡ Some (measure_of (before ms k) m.body)

-- the size fault of an item, where the axioms before it are of the size `total` together
abbrev pub item_size_fault : List MacroAt → ℕ → WrittenItem → Option Fault
item_size_fault ms total (axiom_ at body) =
    option_or (depth_fault at (expanded_height ms body)) (total_fault at (total + expanded_size ms body))
item_size_fault ms total (macro_ m) = None

-- the size of the axioms up to this item
abbrev pub total_after : List MacroAt → ℕ → WrittenItem → ℕ
total_after ms total (axiom_ at body) = total + expanded_size ms body
total_after ms total (macro_ m) = total
