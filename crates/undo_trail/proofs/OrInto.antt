-- The words of a row that take those of another, one after another.
use Rattle.std.proofs.Common.{◌≡◌, ◌≢◌, ℕ, ◌+◌, ◌<◌, ◌≤◌, ◌⊎◌, inl, inr, Bool, true, false, ◌||◌, List, length, get_or, set, bit_or, sym, ◌∙◌, ap, arith, MatchBool}
use Rattle.std.proofs.lemmas.{Bool.{cases_eq, or_cases, or_parts, MatchBool-at_true, MatchBool-at_false}, List.{get_or-set_same, get_or-set_other, set-get_or}}
use Rattle.undo_trail.{specs.{declared.trail.Change.{Change}, Trail.{Grows}}, proofs.Grows.{grows_then}}

-- the first k words were joined
pub record HasJoinedWords (as0 : List Change) (t : List ℕ) (to from : ℕ) (cs : List Change) (u : List ℕ) (changed : Bool) (k : ℕ) : Type 0 where
  pub joined : (j : ℕ) → j < k → get_or u (to + j) 0 ≡ bit_or (get_or t (to + j) 0) (get_or t (from + j) 0)
  pub others : (p : ℕ) → (p < to) ⊎ (to + k ≤ p) → get_or u p 0 ≡ get_or t p 0
  pub grows : Grows as0 t cs u k
  pub some : changed ≡ true → (j : ℕ) × (j < k) × (get_or u (to + j) 0 ≢ get_or t (to + j) 0)
  pub none : changed ≡ false → (u ≡ t) × (cs ≡ as0)

-- one of two that are not both new is the first
was : (x y : Bool) → (y ≡ true → ⊥) → (x || y) ≡ true → x ≡ true
was x y n e = elim (or_cases x y e) [ inl first ↦ first | inr second ↦ absurd (n second) ]

pub joining_more : (as0 : List Change) (t : List ℕ) (to from words : ℕ) (cs : List Change) (u : List ℕ) (changed : Bool) (k : ℕ)
    → (from ≡ to) ⊎ ((from + words ≤ to) ⊎ (to + words ≤ from)) → k < words → to + words ≤ length u
    → HasJoinedWords as0 t to from cs u changed k
    → (ds : List Change) (v : List ℕ) (b : Bool)
    → v ≡ set u (to + k) (bit_or (get_or u (to + k) 0) (get_or u (from + k) 0))
    → Grows cs u ds v 1
    → MatchBool b (v ≢ u) ((v ≡ u) × (ds ≡ cs))
    → HasJoinedWords as0 t to from ds v (changed || b) (k + 1)
joining_more as0 t to from words cs u changed k apart low inside j ds v b is grows told =
    let word : ℕ = bit_or (get_or u (to + k) 0) (get_or u (from + k) 0) in
    let told_true : b ≡ true → word ≡ get_or u (to + k) 0 → ⊥ = λ e kept.
    MatchBool-at_true (v ≢ u) ((v ≡ u) × (ds ≡ cs)) e told (is ∙ ap (set u (to + k)) kept ∙ set-get_or u (to + k) 0) in
    let told_false : b ≡ false → (v ≡ u) × (ds ≡ cs) = λ e. MatchBool-at_false (v ≢ u) ((v ≡ u) × (ds ≡ cs)) e told in
    let here : get_or v (to + k) 0 ≡ word = ap (λ x. get_or x (to + k) 0) is ∙ get_or-set_same u (to + k) word 0 (omega arith) in
    let other : (p : ℕ) → p ≢ to + k → get_or v p 0 ≡ get_or u p 0 = λ p n. ap (λ x. get_or x p 0) is ∙ get_or-set_other u (to + k) p word 0 n in
    let to_old : get_or u (to + k) 0 ≡ get_or t (to + k) 0 = j.others (to + k) (inr (omega arith)) in
    let from_old : get_or u (from + k) 0 ≡ get_or t (from + k) 0 = j.others (from + k) (elim apart [
      | inl same ↦ inr (omega arith)
      | inr sides ↦ elim sides [ inl before ↦ inl (omega arith) | inr after ↦ inr (omega arith) ]
    ]) in
    let word_is : word ≡ bit_or (get_or t (to + k) 0) (get_or t (from + k) 0) = ap (λ x. bit_or x (get_or u (from + k) 0)) to_old
    ∙ ap (bit_or (get_or t (to + k) 0)) from_old in
    record {
      joined = λ i h. elim (cases_eq i k) [
        | inl last ↦ ap (λ x. get_or v (to + x) 0) last ∙ here ∙ word_is ∙ ap (λ x. bit_or (get_or t (to + x) 0) (get_or t (from + x) 0)) (sym last)
        | inr before ↦ other (to + i) (λ e. before (omega arith)) ∙ j.joined i (omega arith)
      ];
      others = λ p out. other p (elim out [ inl low ↦ omega arith | inr high ↦ omega arith ])
          ∙ j.others p (elim out [ inl low ↦ inl low | inr high ↦ inr (omega arith) ]);
      grows = grows_then as0 t cs u ds v k 1 j.grows grows;
      some = λ e. elim (cases_eq word (get_or u (to + k) 0)) [
        | inl kept ↦ (let o = was changed b (λ d. told_true d kept) e in let s = j.some o in
            (s.0, omega (arith, s.1), (λ f. s.2 (sym (other (to + s.0) (λ g. absurd (omega (arith, s.1)))) ∙ f))))
        | inr new ↦ (k, omega arith, (λ f. new (sym here ∙ f ∙ sym to_old)))
      ];
      none = λ e. let parts = or_parts changed b e in
          let same = j.none parts.0 in
          let unchanged = told_false parts.1 in
          (unchanged.0 ∙ same.0, unchanged.1 ∙ same.1);
    }
