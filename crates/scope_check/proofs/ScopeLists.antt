-- The variables of a scope as its bindings.
use Rattle.std.proofs.Common.{◌≡◌, ℕ, suc, ◌+◌, ◌<◌, ◌≤◌, min, Bool, true, false, List, [], ◌∷◌, ◌++◌, Some, None, length, drop, get_or, map, option_map, cond, refl, sym, ap, ◌∙◌, append_assoc, append-nil, add-one, length-append, length-drop, arith}
use Rattle.std.{proofs.{lemmas.Bool.Decides.{nat_tests}, Math.Seq.{drop-cons}}, specs.List.{find}}
use Rattle.pc_common.specs.{declared.{place.Place.{Place}, fault.FaultKind.TheVariants.{TooManyVariables}}, Names.{same_name}}
use Rattle.pc_syntax.specs.{declared.term.Arg.{Arg}, NameFaults.{scope_fault}, Scope.{Binding, Scope, binding_of, sort_of_arg, bindings_from, bound_in}}
use Rattle.scope_check.{specs.{declared.scope.Variable.{Variable}, Bindings.{binding}}, proofs.Walks.{empty}}

first_or : (b : Bool) (v : Variable) (vs : List Variable) (name : List ℕ)
    → option_map binding (find (λ w. same_name w.name.now name) vs) ≡ binding_of (map binding vs) name
    → option_map binding (cond b (Some v) (find (λ w. same_name w.name.now name) vs)) ≡ cond b (Some (binding v)) (binding_of (map binding vs) name)
first_or true v vs name rest = refl
first_or false v vs name rest = rest

-- the first variable of a name is its first binding
pub find_is : (vs : List Variable) (name : List ℕ)
    → option_map binding (find (λ w. same_name w.name.now name) vs) ≡ binding_of (map binding vs) name
find_is [] name = refl
find_is (v ∷ vs) name = first_or (same_name v.name.now name) v vs name (find_is vs name)

-- the first variable of a name from place k on: the one that stands there, or a later one
module _ (vs : List Variable) (name : List ℕ) (k : ℕ) (other : Variable) where
  named_from : (b : Bool) → k < length vs → b ≡ same_name (get_or vs k other).name.now name
      → find (λ w. same_name w.name.now name) (drop k vs)
      ≡ cond b (Some (get_or vs k other)) (find (λ w. same_name w.name.now name) (drop (k + 1) vs))
  named_from b within same =
      rw add-one
      (ap (find (λ w. same_name w.name.now name)) (drop-cons vs k other within)
      ∙ ap (λ c. cond c (Some (get_or vs k other)) (find (λ w. same_name w.name.now name) (drop (suc k) vs))) (sym same))

  pub named_here : k < length vs → true ≡ same_name (get_or vs k other).name.now name
      → find (λ w. same_name w.name.now name) (drop k vs) ≡ Some (get_or vs k other)
  named_here within same = named_from true within same

  pub named_later : k < length vs → false ≡ same_name (get_or vs k other).name.now name
      → find (λ w. same_name w.name.now name) (drop k vs) ≡ find (λ w. same_name w.name.now name) (drop (k + 1) vs)
  named_later within same = named_from false within same

pub none_named : (vs : List Variable) (name : List ℕ) (k : ℕ) → length vs ≤ k → find (λ w. same_name w.name.now name) (drop k vs) ≡ None
none_named vs name k past = ap (find (λ w. same_name w.name.now name)) (empty (drop k vs) (omega (arith, length-drop k vs)))

-- no more than 32 variables, or more
pub scope_within : (at : Place) (scope : Scope) → length scope ≤ 32 → scope_fault at scope ≡ None
scope_within at scope few = grind (arith, nat_tests)

pub scope_over : (at : Place) (scope : Scope) → 32 < length scope → scope_fault at scope ≡ Some (TooManyVariables 32, at)
scope_over at scope many = grind (arith, nat_tests)

-- as many bindings as the shorter list is long
pub bindings_length : (scope : Scope) (slot : ℕ) (names : List (List ℕ)) (args : List Arg)
    → length (bindings_from scope slot names args) ≡ min (length names) (length args)
bindings_length scope slot [] args = omega arith
bindings_length scope slot (n ∷ ns) [] = omega arith
bindings_length scope slot (n ∷ ns) (a ∷ as_) = omega (arith, bindings_length scope (slot + 1) ns as_)

pub bound_in_length : (scope : Scope) (names : List (List ℕ)) (args : List Arg)
    → length (bound_in scope names args) ≡ length scope + min (length names) (length args)
bound_in_length scope names args =
    omega (
      arith,
      length-append (bindings_from scope (length scope) names args) scope,
      bindings_length scope (length scope) names args,
    )

module _ (scope : Scope) (names : List (List ℕ)) (args : List Arg) where
  -- the first k names are bound
  abbrev pub AreBoundUpTo : ℕ → Scope → Type 0
  AreBoundUpTo k inside =
      (length inside ≡ k) ×
      (bindings_from scope (length scope) names args ≡
      inside ++ bindings_from scope (length scope + k) (drop k names) (drop k args))

  pub bound_none : AreBoundUpTo 0 []
  bound_none =
      let slots : length scope ≡ length scope + 0 = omega arith in
      (refl, ap (λ slot. bindings_from scope slot names args) slots)

  pub bound_one_more : (k : ℕ) (n : List ℕ) (a : Arg) (b : Binding) (inside : Scope)
      → drop k names ≡ n ∷ drop (k + 1) names → drop k args ≡ a ∷ drop (k + 1) args
      → b ≡ record { name = n; sort = sort_of_arg scope a; slot = length scope + k }
      → AreBoundUpTo k inside → AreBoundUpTo (k + 1) (inside ++ b ∷ [])
  bound_one_more k n a b inside next_name next is h =
      let slots : (length scope + k) + 1 ≡ length scope + (k + 1) = omega arith in
      let rest = bindings_from scope (length scope + (k + 1)) (drop (k + 1) names) (drop (k + 1) args) in (
        omega (arith, h.0, length-append inside (b ∷ [])),
        rw (h.1, next_name, next, slots) (ap (λ c. inside ++ c ∷ rest) (sym is) ∙ sym (append_assoc inside (b ∷ []) rest)),
      )

  pub bound_whole : (k : ℕ) (inside : Scope) → k ≡ min (length names) (length args) → AreBoundUpTo k inside
      → inside ≡ bindings_from scope (length scope) names args
  bound_whole k inside whole h =
      let rest = bindings_from scope (length scope + k) (drop k names) (drop k args) in
      let none : length rest ≡ 0 =
      omega (
        arith,
        bindings_length scope (length scope + k) (drop k names) (drop k args),
        length-drop k names,
        length-drop k args,
        whole,
      ) in
      sym (h.1 ∙ ap (λ r. inside ++ r) (empty rest none) ∙ append-nil inside)
