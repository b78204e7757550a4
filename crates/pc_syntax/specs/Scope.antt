-- A scope: the bindings on the way to a place, innermost first.
use Rattle.std.specs.Prelude.{ℕ, ◌+◌, List, [], ◌∷◌, ◌++◌, Option, Some, None, length, if◌then◌else◌}
use Rattle.pc_syntax.specs.declared.term.{Sort.{Sort, TheVariants.{Core}}, Arg.{Arg, TheVariants.{Word as word_arg, Number as number_arg}}}
use Rattle.pc_common.specs.Names.{same_name}

-- a bound name, its sort, and its slot: how many bindings came before it
pub record Binding : Type 0 where
  pub name : List ℕ
  pub sort : Sort
  pub slot : ℕ

abbrev pub Scope : Type 0
Scope = List Binding

-- the first binding of a name
abbrev pub binding_of : Scope → List ℕ → Option Binding
binding_of [] name = None
binding_of (b ∷ bs) name = if same_name b.name name then Some b else binding_of bs name

-- the sort of an argument: a number is a core, and so is what has no binding
abbrev pub sort_of_arg : Scope → Arg → Sort
sort_of_arg scope (word_arg w) = elim (binding_of scope w.name) [ None ↦ Core | Some b ↦ b.sort ]
sort_of_arg scope (number_arg n at) = Core

-- the scope inside a quantifier, whose variable takes the next slot
abbrev pub quantified_in : Scope → List ℕ → Sort → Scope
quantified_in scope name sort = record { name = name; sort = sort; slot = length scope } ∷ scope

-- each name bound to its argument, with slots in their order from this one on
abbrev pub bindings_from : Scope → ℕ → List (List ℕ) → List Arg → Scope
bindings_from scope slot [] args = []
bindings_from scope slot (n ∷ ns) [] = []
bindings_from scope slot (n ∷ ns) (a ∷ as_) =
    record { name = n; sort = sort_of_arg scope a; slot = slot } ∷ bindings_from scope (slot + 1) ns as_

-- the scope inside a binding of these names to these arguments, which take the next slots
abbrev pub bound_in : Scope → List (List ℕ) → List Arg → Scope
bound_in scope names args = bindings_from scope (length scope) names args ++ scope
