-- The numbers of the chosen places: they rise, and they are the chosen places.
use Rattle.std.proofs.Common.{◌≡◌, ℕ, zero, suc, ◌+◌, ◌<◌, ◌≤◌, inl, inr, Bool, true, false, ◌||◌, eqb, List, [], ◌∷◌, ◌++◌, length, get_or, refl, sym, ◌∙◌, ap, subst, arith, append-nil}
use Rattle.std.proofs.lemmas.{Bool.{cases_lt, ne_eqb, eq-eqb}, List.{get_or_past, Folds.{list_any-append}, Elements.{All-append, All-nil}}}
use Rattle.std.{proofs.Math.Bool.{or-false}, specs.Prelude.{IsTrue, All, if◌then◌else◌}}
use Rattle.axiom_core.specs.{Chosen.{Choice, among, flagged, AreRising}, Choices.{places}}

rising_wider : (low n : ℕ) (ks : List ℕ) → AreRising low n ks → AreRising low (suc n) ks
rising_wider low n [] r = tt
rising_wider low n (k ∷ ks) r = (r.0, omega (arith, r.1), rising_wider (k + 1) n ks r.2)

rising_end : (low n : ℕ) (ks : List ℕ) → low ≤ n → AreRising low n ks → AreRising low (suc n) (ks ++ n ∷ [])
rising_end low n [] h r = (h, omega arith, tt)
rising_end low n (k ∷ ks) h r = (r.0, omega (arith, r.1), rising_end (k + 1) n ks (omega (arith, r.1)) r.2)

rising_one : (b : Bool) (n : ℕ) (ks : List ℕ) → AreRising 0 n ks → AreRising 0 (suc n) (ks ++ (if b then n ∷ [] else []))
rising_one true n ks r = rising_end 0 n ks (omega arith) r
rising_one false n ks r = let same : ks ++ [] ≡ ks = append-nil ks in
    let P : List ℕ → Type 0 = λ z. AreRising 0 (suc n) z in subst P (sym same) (rising_wider 0 n ks r)

pub places_rising : (keep : Choice) (n : ℕ) → AreRising 0 n (places keep n)
places_rising keep zero = tt
places_rising keep (suc n) = rising_one (keep n) n (places keep n) (places_rising keep n)

among_end : (ks ls : List ℕ) (k : ℕ) → among (ks ++ ls) k ≡ (among ks k || among ls k)
among_end ks ls k = list_any-append (λ j. eqb j k) ks ls

among_one_other : (b : Bool) (n k : ℕ) → eqb n k ≡ false → among (if b then n ∷ [] else []) k ≡ false
among_one_other true n k e = ap (λ z. z || false) e
among_one_other false n k e = refl

among_one_same : (b : Bool) (n k : ℕ) → eqb n k ≡ true → among (if b then n ∷ [] else []) k ≡ b
among_one_same true n k e = ap (λ z. z || false) e
among_one_same false n k e = refl

-- no number at or past n
pub among_past : (keep : Choice) (n k : ℕ) → n ≤ k → among (places keep n) k ≡ false
among_past keep zero k h = refl
among_past keep (suc n) k h =
    among_end (places keep n) (if keep n then n ∷ [] else []) k
    ∙ ap (λ z. z || among (if keep n then n ∷ [] else []) k) (among_past keep n k (omega arith))
    ∙ among_one_other (keep n) n k (ne_eqb n k (omega arith))

-- below n the numbers are the chosen places
pub among_within : (keep : Choice) (n k : ℕ) → k < n → among (places keep n) k ≡ keep k
among_within keep zero k h = absurd (omega arith)
among_within keep (suc n) k h =
    among_end (places keep n) (if keep n then n ∷ [] else []) k
    ∙ elim (cases_lt k n) [ inl lower ↦ before lower (among_within keep n k lower) | inr past ↦ last past ]
  where
    before : k < n → among (places keep n) k ≡ keep k → (among (places keep n) k || among (if keep n then n ∷ [] else []) k) ≡ keep k
    before lower rest =
        ap (λ z. among (places keep n) k || z) (among_one_other (keep n) n k (ne_eqb n k (omega arith)))
        ∙ or-false (among (places keep n) k) ∙ rest

    last : n ≤ k → (among (places keep n) k || among (if keep n then n ∷ [] else []) k) ≡ keep k
    last past =
        let same : n ≡ k = omega arith in
        ap (λ z. z || among (if keep n then n ∷ [] else []) k) (among_past keep n k past)
        ∙ among_one_same (keep n) n k (eq-eqb n k same) ∙ ap keep same

-- the numbers of flags are the flagged places
pub among_flagged : (flags : List Bool) (k : ℕ) → among (places (flagged flags) (length flags)) k ≡ flagged flags k
among_flagged flags k = elim (cases_lt k (length flags)) [
  | inl inside ↦ among_within (flagged flags) (length flags) k inside
  | inr past ↦ among_past (flagged flags) (length flags) k past ∙ sym (get_or_past flags k false past)
]

all_one : (P : ℕ → Type 0) (b : Bool) (n : ℕ) → (b ≡ true → P n) → All P (if b then n ∷ [] else [])
all_one P true n p = λ k d h. single k d h
  where
    single : (k d : ℕ) → k < 1 → P (get_or (n ∷ []) k d)
    single zero d h = p refl
    single (suc k) d h = absurd (omega arith)
all_one P false n p = All-nil P

-- what holds of each chosen place below n holds of each number
pub places_all : (P : ℕ → Type 0) (keep : Choice) (n : ℕ) → ((k : ℕ) → k < n → IsTrue (keep k) → P k) → All P (places keep n)
places_all P keep zero p = All-nil P
places_all P keep (suc n) p =
    All-append P (places keep n) (if keep n then n ∷ [] else [])
    (places_all P keep n (λ k h kept. p k (omega arith) kept)) (all_one P (keep n) n (p n (omega arith)))

pub kept_flagged : (flags : List Bool) (kept : List ℕ) → kept ≡ places (flagged flags) (length flags)
    → All (λ k. (k < length flags) × IsTrue (flagged flags k)) kept
kept_flagged flags kept is =
    let P : List ℕ → Type 0 = λ ks. All (λ k. (k < length flags) × IsTrue (flagged flags k)) ks in
    subst P (sym is) (places_all (λ k. (k < length flags) × IsTrue (flagged flags k)) (flagged flags) (length flags) (λ k inside flag. (inside, flag)))
