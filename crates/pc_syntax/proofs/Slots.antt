-- The values of a scope's names, and of a closed formula's slots, are the same.
use Rattle.std.proofs.Common.{◌≡◌, ℕ, zero, suc, Bool, true, false, List, [], ◌∷◌, ◌++◌, Option, Some, None, length, cond, refl, sym, subst, slice_get, arith}
use Rattle.pc_syntax.specs.{declared.term.Sort.{Sort}, Truth.{Meaning, Environment, value_of}, Scope.{Binding, Scope, binding_of, quantified_in}}
use Rattle.pc_syntax.specs.Fits.{sort_of_meaning, Fits}
use Rattle.pc_common.{specs.Names.{same_name}, proofs.Places.{slice_get-more}}

-- a value and a binding of one name, or neither
abbrev pub SameFound : List Meaning → Option Meaning → Option Binding → Type 0
SameFound slots None None = Unit {0}
SameFound slots (Some v) (Some b) = (slice_get slots b.slot ≡ Some v) × (sort_of_meaning v ≡ b.sort)
SameFound slots _ _ = ⊥

pick : (slots : List Meaning) (t : Bool) (v w : Option Meaning) (a b : Option Binding)
    → SameFound slots v a → SameFound slots w b → SameFound slots (cond t v w) (cond t a b)
pick slots true v w a b p q = p
pick slots false v w a b p q = q

pub found : (slots : List Meaning) (env : Environment) (scope : Scope) → Fits slots env scope → (name : List ℕ)
    → SameFound slots (value_of env name) (binding_of scope name)
found slots [] [] h name = tt
found slots [] (b ∷ bs) h name = elim h [ ]
found slots (e ∷ es) [] h name = elim h [ ]
found slots (e ∷ es) (b ∷ bs) h name =
    subst
    (λ (n : List ℕ). SameFound slots (cond (same_name n name) (Some e.1) (value_of es name)) (binding_of (b ∷ bs) name))
    (sym h.0)
    (pick slots (same_name b.name name) (Some e.1) (value_of es name) (Some b) (binding_of bs name) (h.1, h.2) (found slots es bs h.3 name))

pub slice_get-end : {A : Type 0} (xs : List A) (y : A) (ys : List A) (k : ℕ) → length xs ≡ k → slice_get (xs ++ y ∷ ys) k ≡ Some y
slice_get-end [] y ys zero h = refl
slice_get-end [] y ys (suc k) h = absurd (omega arith)
slice_get-end (x ∷ xs) y ys zero h = absurd (omega arith)
slice_get-end (x ∷ xs) y ys (suc k) h = slice_get-end xs y ys k (omega arith)

pub Fits-more : (slots more : List Meaning) (env : Environment) (scope : Scope) → Fits slots env scope → Fits (slots ++ more) env scope
Fits-more slots more [] [] h = tt
Fits-more slots more [] (b ∷ bs) h = elim h [ ]
Fits-more slots more (e ∷ es) [] h = elim h [ ]
Fits-more slots more (e ∷ es) (b ∷ bs) h =
    (h.0, slice_get-more slots more b.slot e.1 h.1, h.2, Fits-more slots more es bs h.3)

-- one variable more
pub Fits-quantified : (slots : List Meaning) (env : Environment) (scope : Scope) (name : List ℕ) (v : Meaning) (sort : Sort)
    → length slots ≡ length scope → Fits slots env scope → sort_of_meaning v ≡ sort
    → Fits (slots ++ v ∷ []) ((name, v) ∷ env) (quantified_in scope name sort)
Fits-quantified slots env scope name v sort same h of_sort =
    (refl, slice_get-end slots v [] (length scope) same, of_sort, Fits-more slots (v ∷ []) env scope h)
