-- What is taken of a list by two choices, and what holds of it.
use Rattle.std.proofs.Common.{◌≡◌, ℕ, zero, suc, ◌+◌, ◌<◌, Bool, true, false, List, [], ◌∷◌, ◌++◌, length, map, get_or, take, refl, sym, ◌∙◌, ap, arith, add-one}
use Rattle.std.{proofs.lemmas.{List.{get_or-map, length-map}, Bool.{and_from}}, specs.{Prelude.{IsTrue, if◌then◌else◌}, List.{list_all}}}
use Rattle.pc_common.{specs.Case.{Case}, proofs.Bools.{and_first, and_second}}
use Rattle.pc_syntax.specs.{Closed.{PlainClosed, closed_true}, StagesWithin.{StagesWithin}}
use Rattle.pc_ground.specs.Stages.{AxiomsWithin}
use Rattle.axiom_core.specs.{Chosen.{Choice, after_first, taken}, Cores.{Allow, Forbid}}

-- choices that agree at the places of a list take the same of it
pub same_taken : {X : Type 0} (keep other : Choice) (xs : List X) → ((k : ℕ) → k < length xs → keep k ≡ other k) → taken keep xs ≡ taken other xs
same_taken keep other [] same = refl
same_taken keep other (x ∷ xs) same =
    ap (λ b. if b then x ∷ taken (after_first keep) xs else taken (after_first keep) xs) (same zero (omega arith))
    ∙ ap (λ ys. if other zero then x ∷ ys else ys) (same_taken (after_first keep) (after_first other) xs (λ k h. same (suc k) (omega arith)))

-- all is taken where all places are chosen
pub all_taken : {X : Type 0} (keep : Choice) (xs : List X) → ((k : ℕ) → k < length xs → keep k ≡ true) → taken keep xs ≡ xs
all_taken keep [] all = refl
all_taken keep (x ∷ xs) all =
    ap (λ b. if b then x ∷ taken (after_first keep) xs else taken (after_first keep) xs) (all zero (omega arith))
    ∙ ap (λ ys. x ∷ ys) (all_taken (after_first keep) xs (λ k h. all (suc k) (omega arith)))

put_front : {X : Type 0} (b : Bool) (x : X) (ys zs us : List X) → ys ≡ zs ++ us → (if b then x ∷ ys else ys) ≡ (if b then x ∷ zs else zs) ++ us
put_front true x ys zs us e = ap (λ vs. x ∷ vs) e
put_front false x ys zs us e = e

taken_next : {X : Type 0} (keep : Choice) (xs : List X) (k : ℕ) (d : X) → k < length xs
    → taken keep (take (suc k) xs) ≡ taken keep (take k xs) ++ (if keep k then get_or xs k d ∷ [] else [])
taken_next keep [] k d h = absurd (omega arith)
taken_next keep (x ∷ xs) zero d h = refl
taken_next keep (x ∷ xs) (suc k) d h =
    put_front (keep zero) x (taken (after_first keep) (take (suc k) xs)) (taken (after_first keep) (take k xs)) (if keep (suc k) then
    get_or xs k d ∷ [] else [])
    (taken_next (after_first keep) xs k d (omega arith))

-- a loop that has taken of the first k, and then comes to the next
pub taken_more : {X : Type 0} (keep : Choice) (xs : List X) (k : ℕ) (d : X) → k < length xs
    → taken keep (take (k + 1) xs) ≡ taken keep (take k xs) ++ (if keep k then get_or xs k d ∷ [] else [])
taken_more keep xs k d h = ap (λ n. taken keep (take n xs)) (add-one k) ∙ taken_next keep xs k d h

-- the images of the chosen ones of the first k, and then that of the next
pub copied_more : {X Y : Type 0} (f : X → Y) (keep : Choice) (xs : List X) (k : ℕ) (x : X) (chosen : Bool) (before after : List Y) → k < length xs
    → x ≡ get_or xs k x → chosen ≡ keep k → before ≡ taken keep (take k (map f xs)) → after ≡ before ++ (if chosen then f x ∷ [] else [])
    → after ≡ taken keep (take (k + 1) (map f xs))
copied_more f keep xs k x chosen before after inside at same done is =
    let here : get_or (map f xs) k (f x) ≡ f x = get_or-map f xs k x (f x) inside ∙ ap f (sym at) in
    is ∙ ap (λ ys. ys ++ (if chosen then f x ∷ [] else [])) done
    ∙ ap (λ b. taken keep (take k (map f xs)) ++ (if b then f x ∷ [] else [])) same
    ∙ ap (λ y. taken keep (take k (map f xs)) ++ (if keep k then y ∷ [] else [])) (sym here)
    ∙ sym (taken_more keep (map f xs) k (f x) (omega (arith, inside, length-map xs f)))

within_front : (numbers : List ℕ) (b : Bool) (p : PlainClosed) (ps : List PlainClosed)
    → StagesWithin numbers p → AxiomsWithin numbers ps → AxiomsWithin numbers (if b then p ∷ ps else ps)
within_front numbers true p ps first rest = (first, rest)
within_front numbers false p ps first rest = rest

-- fewer axioms name no other stages
pub within_taken : (numbers : List ℕ) (keep : Choice) (ps : List PlainClosed) → AxiomsWithin numbers ps → AxiomsWithin numbers (taken keep ps)
within_taken numbers keep [] within = tt
within_taken numbers keep (p ∷ ps) within =
    within_front numbers (keep zero) p (taken (after_first keep) ps) within.0 (within_taken numbers (after_first keep) ps within.1)

fewer_front : {X : Type 0} (test : X → Bool) (a b : Bool) (x : X) (ys zs : List X)
    → (b ≡ true → a ≡ true) → (list_all test ys ≡ true → list_all test zs ≡ true)
    → list_all test (if a then x ∷ ys else ys) ≡ true → list_all test (if b then x ∷ zs else zs) ≡ true
fewer_front test true true x ys zs more rest h =
    and_from (test x) (list_all test zs) (and_first (test x) (list_all test ys) h) (rest (and_second (test x) (list_all test ys) h))
fewer_front test true false x ys zs more rest h = rest (and_second (test x) (list_all test ys) h)
fewer_front test false true x ys zs more rest h = let no : false ≡ true = more refl in cc
fewer_front test false false x ys zs more rest h = rest h

-- what passes at some places passes at fewer
pub fewer_hold : {X : Type 0} (test : X → Bool) (keep other : Choice) (xs : List X) → ((k : ℕ) → IsTrue (other k) → IsTrue (keep k))
    → list_all test (taken keep xs) ≡ true → list_all test (taken other xs) ≡ true
fewer_hold test keep other [] more h = refl
fewer_hold test keep other (x ∷ xs) more h =
    fewer_front test (keep zero) (other zero) x (taken (after_first keep) xs) (taken (after_first other) xs) (more zero)
    (fewer_hold test (after_first keep) (after_first other) xs (λ k. more (suc k))) h

module _ (c : Case) (ps : List PlainClosed) (keep other : Choice) (more : (k : ℕ) → IsTrue (other k) → IsTrue (keep k)) where
  -- where some axioms allow, fewer do
  pub fewer_allow : Allow c (taken keep ps) → Allow c (taken other ps)
  fewer_allow (w, is, h) = (w, is, fewer_hold (closed_true c w []) keep other ps more h)

  -- where some axioms forbid, more do
  pub more_forbid : Forbid c (taken other ps) → Forbid c (taken keep ps)
  more_forbid none w is h = none w is (fewer_hold (closed_true c w []) keep other ps more h)

-- what passes everywhere passes at the chosen places
pub all_hold : {X : Type 0} (test : X → Bool) (keep : Choice) (xs : List X) → list_all test xs ≡ true → list_all test (taken keep xs) ≡ true
all_hold test keep xs h =
    let all : Choice = λ k. true in
    fewer_hold test all keep xs (λ k kept. refl) (ap (list_all test) (all_taken all xs (λ k inside. refl)) ∙ h)

-- where some of the axioms forbid, all do
pub all_forbid : (c : Case) (ps : List PlainClosed) (keep : Choice) → Forbid c (taken keep ps) → Forbid c ps
all_forbid c ps keep none w is h = none w is (all_hold (closed_true c w []) keep ps h)

map_front : {X Y : Type 0} (f : X → Y) (b : Bool) (x : X) (xs : List X) (ys : List Y) → map f xs ≡ ys
    → map f (if b then x ∷ xs else xs) ≡ (if b then f x ∷ ys else ys)
map_front f true x xs ys e = ap (λ zs. f x ∷ zs) e
map_front f false x xs ys e = e

-- the images of what is taken
pub map_taken : {X Y : Type 0} (f : X → Y) (keep : Choice) (xs : List X) → map f (taken keep xs) ≡ taken keep (map f xs)
map_taken f keep [] = refl
map_taken f keep (x ∷ xs) =
    map_front f (keep zero) x (taken (after_first keep) xs) (taken (after_first keep) (map f xs)) (map_taken f (after_first keep) xs)
