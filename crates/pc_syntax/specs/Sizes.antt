-- Size and height of a formula with its macros followed into their bodies, and the first fault of a
-- model's sizes. The macros that a formula may name are listed latest first.
use Rattle.std.specs.{Prelude.{ℕ, List, [], ◌∷◌, Option, Some, None, length, max, ◌+◌, nat_lt, if◌then◌else◌}, Option.{option_or}}
use Rattle.pc_common.specs.{declared.{place.Place.{Place}, fault.FaultKind.TheVariants.{TooDeep, TooBig}}, Names.{same_name}}
use Rattle.pc_syntax.specs.declared.limits.TheConstants.{MAX_HEIGHT, MAX_SIZE}
use Rattle.pc_syntax.specs.Written.{Written, not_, and_, or_, implies_, forall_, exists_, static_, nodes_, edges_, expand_, bind_, MacroAt, WrittenItem, axiom_, macro_, WrittenModel}
use Rattle.pc_syntax.specs.{Observable.{macros_of}, Fault.{Fault}}

-- 1 for each connective, quantifier and predicate, 1 plus the number of its members for a list of
-- atoms, and 1 plus the size of its body for an expansion
abbrev pub expanded_size : List MacroAt → Written → ℕ
expanded_size ms (not_ p) = 1 + expanded_size ms p
expanded_size ms (and_ p q) = 1 + (expanded_size ms p + expanded_size ms q)
expanded_size ms (or_ p q) = 1 + (expanded_size ms p + expanded_size ms q)
expanded_size ms (implies_ p q) = 1 + (expanded_size ms p + expanded_size ms q)
expanded_size ms (forall_ at sort name p) = 1 + expanded_size ms p
expanded_size ms (exists_ at sort name p) = 1 + expanded_size ms p
expanded_size ms (static_ pred args) = 1
expanded_size ms (nodes_ ts) = 1 + length ts
expanded_size ms (edges_ ts) = 1 + length ts
expanded_size ms (bind_ at names args p) = 1 + expanded_size ms p
expanded_size [] (expand_ at name args) = 1
expanded_size (m ∷ ms) (expand_ at name args) =
    if same_name m.name.name name.name then 1 + expanded_size ms m.body else expanded_size ms (expand_ at name args)

-- the greatest height of an atom: how many connectives, quantifiers and expansions are above it
abbrev pub expanded_height : List MacroAt → Written → ℕ
expanded_height ms (not_ p) = 1 + expanded_height ms p
expanded_height ms (and_ p q) = 1 + max (expanded_height ms p) (expanded_height ms q)
expanded_height ms (or_ p q) = 1 + max (expanded_height ms p) (expanded_height ms q)
expanded_height ms (implies_ p q) = 1 + max (expanded_height ms p) (expanded_height ms q)
expanded_height ms (forall_ at sort name p) = 1 + expanded_height ms p
expanded_height ms (exists_ at sort name p) = 1 + expanded_height ms p
expanded_height ms (static_ pred args) = 0
expanded_height ms (nodes_ ts) = 0
expanded_height ms (edges_ ts) = 0
expanded_height ms (bind_ at names args p) = 1 + expanded_height ms p
expanded_height [] (expand_ at name args) = 0
expanded_height (m ∷ ms) (expand_ at name args) =
    if same_name m.name.name name.name then 1 + expanded_height ms m.body else expanded_height ms (expand_ at name args)

-- an atom of this height is too deep
abbrev pub depth_fault : Place → ℕ → Option Fault
depth_fault at height = if nat_lt MAX_HEIGHT height then Some (TooDeep MAX_HEIGHT, at) else None

-- the axioms up to this one are too big together
abbrev pub total_fault : Place → ℕ → Option Fault
total_fault at total = if nat_lt MAX_SIZE total then Some (TooBig MAX_SIZE, at) else None

-- the first fault of a list of items, the axioms before them being of the size `total` together
abbrev pub sizes_fault : List MacroAt → ℕ → List WrittenItem → Option Fault
sizes_fault ms total [] = None
sizes_fault ms total (macro_ m ∷ items) = sizes_fault ms total items
sizes_fault ms total (axiom_ at body ∷ items) =
    let now = total + expanded_size ms body in
    option_or (depth_fault at (expanded_height ms body)) (option_or (total_fault at now) (sizes_fault ms now items))

-- the first size fault of a model
abbrev pub first_size_fault : WrittenModel → Option Fault
first_size_fault m = sizes_fault (macros_of m) 0 m.items
