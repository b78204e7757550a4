-- When an environment, a scope and the values of slots belong together.
use Rattle.std.specs.Prelude.{◌≡◌, List, [], ◌∷◌, Some, slice_get}
use Rattle.pc_syntax.specs.{declared.term.Sort.{Sort, TheVariants.{Microop, Core}}, Truth.{Meaning, an_op, a_core, Environment}, Scope.{Scope}}

abbrev pub sort_of_meaning : Meaning → Sort
sort_of_meaning (an_op i) = Microop
sort_of_meaning (a_core k) = Core

-- the environment and the scope have the same names, each with the value of its slot, of its sort
abbrev pub Fits : List Meaning → Environment → Scope → Type 0
Fits slots [] [] = Unit {0}
Fits slots (e ∷ es) (b ∷ bs) =
    (e.0 ≡ b.name) × (slice_get slots b.slot ≡ Some e.1) × (sort_of_meaning e.1 ≡ b.sort) × Fits slots es bs
Fits slots [] (b ∷ bs) = ⊥
Fits slots (e ∷ es) [] = ⊥
