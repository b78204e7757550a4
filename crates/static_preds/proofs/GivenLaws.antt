-- What stands at a place of the arguments that fit a predicate.
use Rattle.std.proofs.{Common.{◌≡◌, ℕ, zero, suc, ◌<◌, List, [], ◌∷◌, Some, length, get_or, slice_get, refl, ap, subst, ◌∙◌}, lemmas.Option.{slice_get-map}}
use Rattle.std.specs.Option.{option_map, option_and_then}
use Rattle.pc_syntax.specs.declared.{term.Sort.{Sort, TheVariants.{Microop}}, bound.Bound.{Bound}, pred.Takes.{Takes, TheVariants.{Op as takes_op}}}
use Rattle.pc_syntax.specs.declared.closed_term.ClosedArg.{ClosedArg, TheVariants.{Slot}}
use Rattle.pc_syntax.specs.{Arguments.{Argument, op_at, core_at, plain_name, place_argument, place_in}, IsClosed.{IsBound, FitsArg, FitArgs}}
use Rattle.pc_syntax.specs.{Truth.{Meaning, an_op, a_core, op_of}, Closed.{argument_at, value_at}}
use Rattle.static_preds.specs.Values.{meanings, value_of, values_of, AreOpsBelow}

-- there are as many as are taken
pub as_many : (scope : List Sort) (ts : List Takes) (args : List ClosedArg) → FitArgs scope ts args → length args ≡ length ts
as_many scope [] [] fit = refl
as_many scope [] (a ∷ as_) fit = elim fit [ ]
as_many scope (t ∷ ts) [] fit = elim fit [ ]
as_many scope (t ∷ ts) (a ∷ as_) fit = ap suc (as_many scope ts as_ fit.1)

-- there is one where one is taken, of the kind that is taken
pub fits_at : (scope : List Sort) (ts : List Takes) (args : List ClosedArg) (k : ℕ) (t : Takes) (d : ClosedArg)
    → FitArgs scope ts args → slice_get ts k ≡ Some t
    → (slice_get args k ≡ Some (get_or args k d)) × FitsArg scope t (get_or args k d)
fits_at scope [] [] k t d h e = cc
fits_at scope [] (a ∷ as_) k t d h e = cc
fits_at scope (u ∷ ts) [] k t d h e = elim h [ ]
fits_at scope (u ∷ ts) (a ∷ as_) zero t d h e =
    let same : u ≡ t = cc in (refl, subst (λ (v : Takes). FitsArg scope v a) same h.0)
fits_at scope (u ∷ ts) (a ∷ as_) (suc k) t d h e = fits_at scope ts as_ k t d h.1 e

-- a slot where a micro-op is taken
pub slot_given : (scope : List Sort) (ts : List Takes) (args : List ClosedArg) (k slot : ℕ) (d : ClosedArg)
    → FitArgs scope ts args → slice_get ts k ≡ Some takes_op → get_or args k d ≡ Slot slot
    → (slice_get args k ≡ Some (Slot slot)) × IsBound scope slot Microop
slot_given scope ts args k slot d h taken is =
    let at = fits_at scope ts args k takes_op d h taken in
    (at.0 ∙ ap Some is, subst (λ (a : ClosedArg). FitsArg scope takes_op a) is at.1)

place_of_meaning : (m : Meaning) → place_argument (argument_at m) ≡ op_of (Some m)
place_of_meaning (an_op i) = refl
place_of_meaning (a_core k) = refl

-- the place of the micro-op that a slot stands for
pub place_is : (slots : List Bound) (args : List ClosedArg) (k slot i : ℕ) → slice_get args k ≡ Some (Slot slot)
    → op_of (Some (value_at (meanings slots) slot)) ≡ Some i → place_in (values_of slots args) k ≡ Some i
place_is slots args k slot i arg is =
    ap (option_and_then place_argument) (slice_get-map (value_of slots) args k ∙ ap (option_map (value_of slots)) arg)
    ∙ place_of_meaning (value_at (meanings slots) slot) ∙ is

pub place_below : (n : ℕ) (values : List Argument) (k i : ℕ) → AreOpsBelow n values → place_in values k ≡ Some i → i < n
place_below n (op_at j ∷ values) zero i h e = let same : j ≡ i = cc in subst (λ (m : ℕ). m < n) same h.0
place_below n (op_at j ∷ values) (suc k) i h e = place_below n values k i h.1 e
place_below n (core_at j ∷ values) (suc k) i h e = place_below n values k i h e
place_below n (plain_name name ∷ values) (suc k) i h e = place_below n values k i h e
place_below n values k i h e = cc
