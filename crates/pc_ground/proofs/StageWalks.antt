-- Looking for a stage by its number or its name, a stage at a time.
use Rattle.std.proofs.Common.{below_more, ◌≤◌, ◌≡◌, ◌≢◌, ℕ, zero, suc, inl, inr, ◌+◌, ◌<◌, ◌==◌, true, false, List, [], ◌∷◌, Some, length, drop, map, refl, sym, ◌∙◌, ap, arith, nat_eq, eq-eqb, eqb-true}
use Rattle.std.{proofs.lemmas.{Option.{slice_get_within, slice_get-map}, Bool.{ne_eqb, and_from}}, specs.Prelude.{slice_get, Contains}}
use Rattle.std.specs.{Option.{option_map, unwrap_or}, Cmp.Lexicographic.{pointwise}}
use Rattle.pc_common.proofs.{Elements.{In, in_from_contains, contains_from_in}, Bools.{true_or_false, and_first, and_second, not_both}}
use Rattle.pc_common.{proofs.Places.{drop_at, map_length}, specs.Lines.{StageName, stage_name}}
use Rattle.pc_ground.specs.{declared.stage.Stage.{Stage}, Stages.{plain_stage, AreStages, numbers_of}, NodeWords.{IsStage}}

pub some_same : {X : Type 0} {x y : X} → Some x ≡ Some y → x ≡ y
some_same {X} {x} {y} e = ap (λ o. unwrap_or o x) e

abbrev Named : List Stage → ℕ → ℕ → Type 0
Named stages n k = stage_name (map plain_stage stages) n ≡ stage_name (map plain_stage (drop k stages)) n

pub name_found : (stages : List Stage) (n k : ℕ) (s : Stage) → Named stages n k → slice_get stages k ≡ Some s → s.number ≡ n
    → s.name ≡ stage_name (map plain_stage stages) n
name_found stages n k s is at same =
    let e = eq-eqb s.number n same in
    sym (is ∙ ap (λ x. stage_name (map plain_stage x) n) (drop_at stages k s at) ∙ (rw e refl))

pub name_passed : (stages : List Stage) (n k : ℕ) (s : Stage) → Named stages n k → slice_get stages k ≡ Some s → s.number ≢ n → Named stages n (k + 1)
name_passed stages n k s is at other =
    let e = ne_eqb s.number n other in
    is ∙ ap (λ x. stage_name (map plain_stage x) n) (drop_at stages k s at) ∙ (rw e refl)

pub stage_at : (stages : List Stage) (k : ℕ) (s : Stage) → slice_get stages k ≡ Some s → slice_get (map plain_stage stages) k ≡ Some (s.number, s.name)
stage_at stages k s at = slice_get-map plain_stage stages k ∙ ap (option_map plain_stage) at

-- names are compared byte by byte
pub same_bytes : (a b : List ℕ) → pointwise nat_eq a b ≡ true → a ≡ b
same_bytes [] [] e = refl
same_bytes [] (y ∷ ys) e = cc
same_bytes (x ∷ xs) [] e = cc
same_bytes (x ∷ xs) (y ∷ ys) e =
    ap (λ c. c ∷ xs) (eqb-true x y (and_first (nat_eq x y) (pointwise nat_eq xs ys) e))
    ∙ ap (λ cs. y ∷ cs) (same_bytes xs ys (and_second (nat_eq x y) (pointwise nat_eq xs ys) e))

pub bytes_same : (a b : List ℕ) → a ≡ b → pointwise nat_eq a b ≡ true
bytes_same a b e = ap (λ x. pointwise nat_eq x b) e ∙ self b
  where
    self : (b : List ℕ) → pointwise nat_eq b b ≡ true
    self [] = refl
    self (y ∷ ys) = and_from (nat_eq y y) (pointwise nat_eq ys ys) (eq-eqb y y refl) (self ys)

-- no stage before k has this name
abbrev pub NoneNamed : List Stage → List ℕ → ℕ → Type 0
NoneNamed stages name k = (j : ℕ) → j < k → (n : ℕ) → slice_get (map plain_stage stages) j ≡ Some (n, name) → ⊥

pub none_more : (stages : List Stage) (name : List ℕ) (k : ℕ) (s : Stage) → NoneNamed stages name k → slice_get stages k ≡ Some s
    → pointwise nat_eq s.name name ≡ false → NoneNamed stages name (k + 1)
none_more stages name k s none at other = below_more _ _ none here
  where
    here : (n : ℕ) → slice_get (map plain_stage stages) k ≡ Some (n, name) → ⊥
    here n f =
        let same : Some (s.number, s.name) ≡ Some (n, name) = sym (stage_at stages k s at) ∙ f in
        let is : (s.number, s.name) ≡ (n, name) = some_same same in
        not_both (pointwise nat_eq s.name name) (bytes_same s.name name (ap (λ t. t.1) is)) other

pub none_named : (stages : List Stage) (name : List ℕ) (k : ℕ) → NoneNamed stages name k → length stages ≤ k
    → (n : ℕ) → IsStage (map plain_stage stages) n name → ⊥
none_named stages name k none all n (j, at) =
    none j (omega (arith, slice_get_within (map plain_stage stages) j (n, name) at, map_length plain_stage stages, all)) n at

first_name : (stages : List StageName)
    → ((j k : ℕ) (s t : StageName) → slice_get stages j ≡ Some s → slice_get stages k ≡ Some t → s.0 ≡ t.0 → j ≡ k)
    → (k n : ℕ) (name : List ℕ) → slice_get stages k ≡ Some (n, name) → stage_name stages n ≡ name
first_name [] one k n name at = cc
first_name (s ∷ ss) one zero n name at =
    let is : s ≡ (n, name) = cc in
    let number : s.0 ≡ n = ap (λ t. t.0) is in
    let named : s.1 ≡ name = ap (λ t. t.1) is in
    rw (eq-eqb s.0 n number) named
first_name (s ∷ ss) one (suc k) n name at =
    elim (true_or_false (s.0 == n)) [
      | inl same ↦ absurd (omega (arith, one zero (suc k) s (n, name) refl at (eqb-true s.0 n same)))
      | inr other ↦ rw other (first_name ss (λ i j a b f g e. omega (arith, one (suc i) (suc j) a b f g e)) k n name at)
    ]

-- the name of a stage's number is the stage's name
pub stage_name_is : (stages : List StageName) → AreStages stages → (n : ℕ) (name : List ℕ) → IsStage stages n name → stage_name stages n ≡ name
stage_name_is stages h n name (k, at) = first_name stages h.one_number k n name at

pub stage_from_number : (stages : List StageName) (n : ℕ) → Contains (numbers_of stages) n → (name : List ℕ) × IsStage stages n name
stage_from_number stages n h = found stages (in_from_contains n (numbers_of stages) h)
  where
    found : (stages : List StageName) → In n (numbers_of stages) → (name : List ℕ) × IsStage stages n name
    found [] i = elim i [ ]
    found (s ∷ ss) (inl e) = (s.1, (zero, ap (λ k. Some (k, s.1)) e))
    found (s ∷ ss) (inr i) = (let r = found ss i in (r.0, (suc r.1.0, r.1.1)))

pub number_from_stage : (stages : List StageName) (n : ℕ) (name : List ℕ) → IsStage stages n name → Contains (numbers_of stages) n
number_from_stage stages n name (k, at) = contains_from_in n (numbers_of stages) (found stages k at)
  where
    found : (stages : List StageName) (k : ℕ) → slice_get stages k ≡ Some (n, name) → In n (numbers_of stages)
    found [] k at = cc
    found (s ∷ ss) zero at =
        let is : s ≡ (n, name) = some_same at in
        inl (ap (λ t. t.0) is)
    found (s ∷ ss) (suc k) at = inr (found ss k at)
