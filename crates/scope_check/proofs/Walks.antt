-- How far a walk over a list has come: what was walked has no fault and is closed, and the rest is to do.
use Rattle.std.proofs.Common.{◌≡◌, ℕ, zero, suc, ◌+◌, ◌<◌, ◌≤◌, List, [], ◌∷◌, ◌++◌, Option, Some, None, length, map, drop, get_or, slice_get, refl, sym, ap, ◌∙◌, append_assoc, append-nil, add-one, length-drop, arith}
use Rattle.std.proofs.Math.Seq.{drop-cons, drop-length}
use Rattle.pc_syntax.specs.{declared.{term.Arg.{Arg}, closed_term.ClosedArg.{ClosedArg}, pred.Takes.{Takes}}, Scope.{Scope}, Fault.{Fault, first_fault}}
use Rattle.pc_syntax.specs.NameFaults.{value_fault, argument_fault, arguments_fault}
use Rattle.pc_syntax.specs.Closing.{closing_of_value, closing_of_bound, closing_of_arg, closing_of_args}
use Rattle.scope_check.{specs.FirstFault.{IsNoneOr}, proofs.FaultLaws.{pass, or_first}}

drop_next : {A : Type 0} (xs : List A) (k : ℕ) (x : A) → slice_get xs k ≡ Some x → drop k xs ≡ x ∷ drop (suc k) xs
drop_next [] k x h = cc
drop_next (y ∷ xs) zero x h = cc
drop_next (y ∷ xs) (suc k) x h = drop_next xs k x h

-- the rest of a list begins with its next member
pub drop_at : {A : Type 0} (xs : List A) (k : ℕ) (x : A) → slice_get xs k ≡ Some x → drop k xs ≡ x ∷ drop (k + 1) xs
drop_at xs k x h = rw add-one (drop_next xs k x h)

pub drop_item : {A : Type 0} (xs : List A) (k : ℕ) (x : A) → k < length xs → x ≡ get_or xs k x → drop k xs ≡ x ∷ drop (k + 1) xs
drop_item xs k x within is = rw add-one (drop-cons xs k x within ∙ ap (λ y. y ∷ drop (suc k) xs) (sym is))

pub empty : {A : Type 0} (xs : List A) → length xs ≡ 0 → xs ≡ []
empty [] h = refl
empty (x ∷ xs) h = absurd (omega arith)

drop_past : {A : Type 0} (xs : List A) (k : ℕ) → length xs ≤ k → drop k xs ≡ []
drop_past xs k past = empty (drop k xs) (omega (arith, length-drop k xs))

module _ {X Y : Type 0} (fault : X → Option Fault) (closing : X → Y) (xs : List X) where
  -- ys is what closing makes of the first k
  abbrev pub IsClosedTo : ℕ → List Y → Type 0
  IsClosedTo k ys =
      (first_fault fault xs ≡ first_fault fault (drop k xs)) × (map closing xs ≡ ys ++ map closing (drop k xs))

  pub closed_more : (k : ℕ) (x : X) (y : Y) (ys : List Y) → drop k xs ≡ x ∷ drop (k + 1) xs
      → fault x ≡ None → y ≡ closing x → IsClosedTo k ys → IsClosedTo (k + 1) (ys ++ y ∷ [])
  closed_more k x y ys next none is h = (
    h.0 ∙ ap (first_fault fault) next ∙ pass (fault x) (first_fault fault (drop (k + 1) xs)) none,
    h.1 ∙ ap (λ rest. ys ++ map closing rest) next ∙ ap (λ z. ys ++ z ∷ map closing (drop (k + 1) xs)) (sym is) ∙
        sym (append_assoc ys (y ∷ []) (map closing (drop (k + 1) xs))),
  )

  pub closed_fault : (k : ℕ) (x : X) (ys : List Y) (given : Option Fault) → drop k xs ≡ x ∷ drop (k + 1) xs
      → IsNoneOr (fault x) given → IsClosedTo k ys → IsNoneOr (first_fault fault xs) given
  closed_fault k x ys given next is h =
      rw (h.0, next) (or_first (fault x) (first_fault fault (drop (k + 1) xs)) given is)

  pub closed_all : (k : ℕ) (ys : List Y) → k ≡ length xs → IsClosedTo k ys
      → (first_fault fault xs ≡ None) × (ys ≡ map closing xs)
  closed_all k ys whole h =
      let rest : drop k xs ≡ [] = ap (λ n. drop n xs) whole ∙ drop-length xs in (
        h.0 ∙ ap (first_fault fault) rest,
        sym (h.1 ∙ ap (λ r. ys ++ map closing r) rest ∙ append-nil ys),
      )

module _ (scope : Scope) (takes : List Takes) (args : List Arg) where
  -- so are the first k arguments of a predicate
  abbrev pub AreClosedTo : ℕ → List ClosedArg → Type 0
  AreClosedTo k ys =
      (arguments_fault scope takes args ≡ arguments_fault scope (drop k takes) (drop k args)) ×
      (closing_of_args scope takes args ≡ ys ++ closing_of_args scope (drop k takes) (drop k args))

  pub arguments_more : (k : ℕ) (t : Takes) (a : Arg) (y : ClosedArg) (ys : List ClosedArg)
      → drop k takes ≡ t ∷ drop (k + 1) takes → drop k args ≡ a ∷ drop (k + 1) args
      → argument_fault scope t a ≡ None → y ≡ closing_of_arg scope t a → AreClosedTo k ys → AreClosedTo (k + 1) (ys ++ y ∷ [])
  arguments_more k t a y ys next_take next none is h = (
    rw (h.0, next_take, next) (pass (argument_fault scope t a) (arguments_fault scope (drop (k + 1) takes) (drop (k + 1) args)) none),
    rw (h.1, next_take, next, is) (sym (append_assoc ys (closing_of_arg scope t a ∷ []) (closing_of_args scope (drop (k + 1) takes) (drop (k + 1) args)))),
  )

  pub arguments_stop : (k : ℕ) (t : Takes) (a : Arg) (ys : List ClosedArg) (given : Option Fault)
      → drop k takes ≡ t ∷ drop (k + 1) takes → drop k args ≡ a ∷ drop (k + 1) args
      → IsNoneOr (argument_fault scope t a) given → AreClosedTo k ys → IsNoneOr (arguments_fault scope takes args) given
  arguments_stop k t a ys given next_take next is h =
      rw (h.0, next_take, next) (or_first (argument_fault scope t a) (arguments_fault scope (drop (k + 1) takes) (drop (k + 1) args)) given is)

  no_arguments : (ts : List Takes) → arguments_fault scope ts [] ≡ None
  no_arguments [] = refl
  no_arguments (t ∷ ts) = refl

  nothing_closed : (ts : List Takes) → closing_of_args scope ts [] ≡ []
  nothing_closed [] = refl
  nothing_closed (t ∷ ts) = refl

  pub arguments_all : (k : ℕ) (ys : List ClosedArg) → k ≡ length args → AreClosedTo k ys
      → (arguments_fault scope takes args ≡ None) × (ys ≡ closing_of_args scope takes args)
  arguments_all k ys whole h =
      let rest : drop k args ≡ [] = ap (λ n. drop n args) whole ∙ drop-length args in (
        h.0 ∙ ap (arguments_fault scope (drop k takes)) rest ∙ no_arguments (drop k takes),
        sym (h.1 ∙ ap (λ r. ys ++ closing_of_args scope (drop k takes) r) rest ∙ ap (λ r. ys ++ r) (nothing_closed (drop k takes)) ∙ append-nil ys),
      )

module _ (scope : Scope) (names : List (List ℕ)) (args : List Arg) where
  -- so are the first k arguments of a binding, and as many are kept as there are names
  abbrev pub AreBoundTo : ℕ → List ClosedArg → Type 0
  AreBoundTo k ys =
      (first_fault (value_fault scope) args ≡ first_fault (value_fault scope) (drop k args)) ×
      (closing_of_bound scope names args ≡ ys ++ closing_of_bound scope (drop k names) (drop k args))

  pub bound_more : (k : ℕ) (a : Arg) (y : ClosedArg) (ys : List ClosedArg)
      → k < length names → drop k args ≡ a ∷ drop (k + 1) args
      → value_fault scope a ≡ None → y ≡ closing_of_value scope a → AreBoundTo k ys → AreBoundTo (k + 1) (ys ++ y ∷ [])
  bound_more k a y ys within next none is h =
      let next_name : drop k names ≡ get_or names k [] ∷ drop (k + 1) names = rw add-one (drop-cons names k [] within) in (
        rw (h.0, next) (pass (value_fault scope a) (first_fault (value_fault scope) (drop (k + 1) args)) none),
        rw (h.1, next_name, next, is) (sym (append_assoc ys (closing_of_value scope a ∷ []) (closing_of_bound scope (drop (k + 1) names) (drop (k + 1) args)))),
      )

  nothing_to_bind : (ns : List (List ℕ)) → closing_of_bound scope ns [] ≡ []
  nothing_to_bind [] = refl
  nothing_to_bind (n ∷ ns) = refl

  pub bound_past : (k : ℕ) (a : Arg) (ys : List ClosedArg)
      → length names ≤ k → drop k args ≡ a ∷ drop (k + 1) args
      → value_fault scope a ≡ None → AreBoundTo k ys → AreBoundTo (k + 1) ys
  bound_past k a ys past next none h =
      let here : drop k names ≡ [] = drop_past names k past in
      let there : drop (k + 1) names ≡ [] = drop_past names (k + 1) (omega arith) in (
        rw (h.0, next) (pass (value_fault scope a) (first_fault (value_fault scope) (drop (k + 1) args)) none),
        h.1 ∙ ap (λ ns. ys ++ closing_of_bound scope ns (drop k args)) here ∙
            sym (ap (λ ns. ys ++ closing_of_bound scope ns (drop (k + 1) args)) there),
      )

  pub bound_stop : (k : ℕ) (a : Arg) (ys : List ClosedArg) (given : Option Fault)
      → drop k args ≡ a ∷ drop (k + 1) args
      → IsNoneOr (value_fault scope a) given → AreBoundTo k ys → IsNoneOr (first_fault (value_fault scope) args) given
  bound_stop k a ys given next is h =
      rw (h.0, next) (or_first (value_fault scope a) (first_fault (value_fault scope) (drop (k + 1) args)) given is)

  pub bound_all : (k : ℕ) (ys : List ClosedArg) → k ≡ length args → AreBoundTo k ys
      → (first_fault (value_fault scope) args ≡ None) × (ys ≡ closing_of_bound scope names args)
  bound_all k ys whole h =
      let rest : drop k args ≡ [] = ap (λ n. drop n args) whole ∙ drop-length args in (
        h.0 ∙ ap (first_fault (value_fault scope)) rest,
        sym (h.1 ∙ ap (λ r. ys ++ closing_of_bound scope (drop k names) r) rest ∙ ap (λ r. ys ++ r) (nothing_to_bind (drop k names)) ∙ append-nil ys),
      )
