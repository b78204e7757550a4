-- Texts written by several calls, as one text.
use Rattle.std.proofs.Common.{◌≡◌, ◌<◌, ◌≤◌, ◌+◌, ℕ, Bool, List, [], ◌∷◌, ◌++◌, Result, Ok, Err, length, get_or, take, drop, refl, sym, ◌∙◌, ap, subst, arith, add-one}
use Rattle.std.proofs.{Math.Seq.{take-suc}, lemmas.List.{take-append-drop, take_all, append-nil, Concat.{flat_map-append}}}
use Rattle.std.specs.{Prelude.{IsOk, IsErr, IsTrue, OnErr}, List.{flat_map}}
use Rattle.pc_common.{specs.{Faults.{Rose}, Outside.{SinkView}, Writes.{Went, Writes, success}}, proofs.Pieces.{cut_in_first, cut_in_next, both_whole}}
use Rattle.pc_common.proofs.Rises.{rose_after}

-- all of the first text went out, and then the next call wrote
went_then : {T E U F : Type 0} (r : Result T E) (s : Result U F) (before first middle next after : List ℕ)
    → IsOk r → Went r before first middle → Went s middle next after → Went s before (first ++ next) after
went_then (Err e) s before first middle next after ok went more = cc
went_then (Ok x) (Ok y) before first middle next after ok whole more = both_whole before first next whole more
went_then (Ok x) (Err e) before first middle next after ok whole cut = cut_in_next first whole cut

-- the call of a first text failed
went_stop : {T E U F : Type 0} (r : Result T E) (s : Result U F) (before first next after : List ℕ)
    → IsErr r → IsErr s → Went r before first after → Went s before (first ++ next) after
went_stop (Ok x) s before first next after err fails went = cc
went_stop (Err e) (Ok y) before first next after err fails cut = cc
went_stop (Err e) (Err f) before first next after err fails cut = cut_in_first next cut

on_rose : {T E U F : Type 0} (r : Result T E) (s : Result U F) (P : Type 0) → IsErr r → OnErr r P → OnErr s P
on_rose (Ok x) s P err given = cc
on_rose (Err e) (Ok y) P err given = tt
on_rose (Err e) (Err f) P err given = given

pub on_more : {U F : Type 0} (s : Result U F) (P Q : Type 0) → (P → Q) → OnErr s P → OnErr s Q
on_more (Ok y) P Q f given = tt
on_more (Err e) P Q f given = f given

-- all of a first text went out, and then the next call wrote
pub writes_then : {K : Type 0} {view : K → SinkView} {old mid new : K}
    {T E U F : Type 0} {r : Result T E} {s : Result U F} {first next : List ℕ}
    → IsOk r → Writes view old mid r first → Writes view mid new s next
    → Writes view old new s (first ++ next)
writes_then {K} {view} {old} {mid} {new} {r = r} {s = s} {first} {next} ok one two = record {
  same_modelled = two.same_modelled ∙ one.same_modelled;
  count = omega (arith, one.count, two.count);
  cause = on_more s (Rose (view mid).faults (view new).faults) (Rose (view old).faults (view new).faults)
      (rose_after (view old).faults (view mid).faults (view new).faults one.count) two.cause;
  went = λ is. went_then r s (view old).taken first (view mid).taken next (view new).taken ok (one.went is)
      (two.went (let P : Bool → Type 0 = λ b. IsTrue b in subst P (sym one.same_modelled) is));
}

-- the call of a first text failed, and the next was not made
pub writes_stop : {K : Type 0} {view : K → SinkView} {old new : K}
    {T E U F : Type 0} {r : Result T E} {s : Result U F} {first : List ℕ} (next : List ℕ)
    → IsErr r → IsErr s → Writes view old new r first → Writes view old new s (first ++ next)
writes_stop {K} {view} {old} {new} {r = r} {s = s} {first} next err fails one = record {
  same_modelled = one.same_modelled;
  count = one.count;
  cause = on_rose r s (Rose (view old).faults (view new).faults) err one.cause;
  went = λ is. went_stop r s (view old).taken first next (view new).taken err fails (one.went is);
}

-- the call of the whole text failed
pub writes_fail : {K : Type 0} {view : K → SinkView} {old new : K}
    {T E U F : Type 0} {r : Result T E} {s : Result U F} {text : List ℕ}
    → IsErr r → IsErr s → Writes view old new r text → Writes view old new s text
writes_fail {r = r} {s = s} err fails one = same r s err fails one
  where
    same : {K : Type 0} {view : K → SinkView} {old new : K}
        {T E U F : Type 0} (r : Result T E) (s : Result U F) {text : List ℕ}
        → IsErr r → IsErr s → Writes view old new r text → Writes view old new s text
    same (Ok x) s err fails one = cc
    same (Err e) (Ok y) err fails one = cc
    same (Err e) (Err f) err fails one = record { same_modelled = one.same_modelled; count = one.count; cause = one.cause; went = one.went }

take_more : {X : Type 0} (xs : List X) (k : ℕ) (d : X) → k < length xs → take (k + 1) xs ≡ take k xs ++ get_or xs k d ∷ []
take_more xs k d within = ap (λ n. take n xs) (add-one k) ∙ take-suc xs k d within

pub flat_more : {X : Type 0} (f : X → List ℕ) (xs : List X) (k : ℕ) (d : X) → k < length xs
    → flat_map f (take k xs) ++ f (get_or xs k d) ≡ flat_map f (take (k + 1) xs)
flat_more f xs k d within =
    ap (λ ys. flat_map f (take k xs) ++ ys) (sym (append-nil (f (get_or xs k d)))) ∙ sym (flat_map-append f (take k xs) (get_or xs k d ∷ []))
    ∙ ap (flat_map f) (sym (take_more xs k d within))

pub flat_rest : {X : Type 0} (f : X → List ℕ) (xs : List X) (k : ℕ) → flat_map f (take k xs) ++ flat_map f (drop k xs) ≡ flat_map f xs
flat_rest f xs k = sym (flat_map-append f (take k xs) (drop k xs)) ∙ ap (flat_map f) (take-append-drop k xs)

-- the same text
pub writes_text : {K : Type 0} {view : K → SinkView} {old new : K}
    {T E : Type 0} {r : Result T E} {text : List ℕ} (other : List ℕ) → text ≡ other
    → Writes view old new r text → Writes view old new r other
writes_text {view = view} {old} {new} {r = r} other same writes =
    let P : List ℕ → Type 0 = λ t. Writes view old new r t in subst P same writes

-- a loop that has written nothing yet
pub writes_none : {K : Type 0} (view : K → SinkView) (old : K) → Writes view old old success []
writes_none view old = record { same_modelled = refl; count = omega arith; cause = tt; went = λ is. sym (append-nil (view old).taken) }

writes_done : {K : Type 0} {view : K → SinkView} {old new : K} {T E : Type 0} (r : Result T E) {text : List ℕ}
    → IsOk r → Writes view old new r text → Writes view old new success text
writes_done (Ok x) ok w = record { same_modelled = w.same_modelled; count = w.count; cause = tt; went = w.went }
writes_done (Err e) ok w = cc

writes_ok : {K : Type 0} {view : K → SinkView} {old new : K} {T E : Type 0} (r : Result T E) {text : List ℕ}
    → IsOk r → Writes view old new success text → Writes view old new r text
writes_ok (Ok x) ok w = record { same_modelled = w.same_modelled; count = w.count; cause = tt; went = w.went }
writes_ok (Err e) ok w = cc

-- a loop that has written the texts of the first things, and then that of the next one
pub writes_more : {K : Type 0} {view : K → SinkView} {old mid new : K} {X T E : Type 0} {r : Result T E}
    (f : X → List ℕ) (xs : List X) (k : ℕ) (d : X) → k < length xs → IsOk r
    → Writes view old mid success (flat_map f (take k xs)) → Writes view mid new r (f (get_or xs k d))
    → Writes view old new success (flat_map f (take (k + 1) xs))
writes_more {r = r} f xs k d within ok before next =
    writes_text (flat_map f (take (k + 1) xs)) (flat_more f xs k d within) (writes_then refl before (writes_done r ok next))

-- the same, but the next one failed
pub writes_cut : {K : Type 0} {view : K → SinkView} {old mid new : K} {X T E U F : Type 0} {r : Result T E} {s : Result U F}
    (f : X → List ℕ) (xs : List X) (k : ℕ) (d : X) → k < length xs → IsErr r → IsErr s
    → Writes view old mid success (flat_map f (take k xs)) → Writes view mid new r (f (get_or xs k d))
    → Writes view old new s (flat_map f xs)
writes_cut f xs k d within err fails before next =
    writes_text (flat_map f xs)
    (ap (λ ys. ys ++ flat_map f (drop (k + 1) xs)) (flat_more f xs k d within) ∙ flat_rest f xs (k + 1))
    (writes_stop (flat_map f (drop (k + 1) xs)) fails fails (writes_then refl before (writes_fail err fails next)))

-- the texts of all things
pub writes_all : {K : Type 0} {view : K → SinkView} {old new : K} {X T E : Type 0} {s : Result T E}
    (f : X → List ℕ) (xs : List X) (k : ℕ) → length xs ≤ k → IsOk s
    → Writes view old new success (flat_map f (take k xs)) → Writes view old new s (flat_map f xs)
writes_all {s = s} f xs k past ok w = writes_ok s ok (writes_text (flat_map f xs) (ap (flat_map f) (take_all k xs past)) w)
