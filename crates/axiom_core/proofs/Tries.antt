-- The deletion loop: flags at its start, where an axiom stays, and where one is taken out.
use Rattle.std.proofs.Common.{◌≡◌, ℕ, ◌+◌, ◌<◌, inl, inr, Bool, true, false, ◌&&◌, not, eqb, List, length, replicate, set, sym, ◌∙◌, ap, subst, arith, length-set}
use Rattle.std.proofs.lemmas.Bool.{cases_lt, eq-eqb, and_from, Decides.{eqb_tells}}
use Rattle.std.proofs.{lemmas.List.{length-replicate, get_or-replicate, get_or-set_same, get_or-set_other}, Math.Bool.{and-true, and-false}}
use Rattle.std.specs.Prelude.{IsTrue}
use Rattle.pc_common.{specs.Case.{Case}, proofs.Bools.{and_first, and_second}}
use Rattle.pc_syntax.specs.Closed.{PlainClosed}
use Rattle.axiom_core.specs.{Chosen.{Choice, taken, less, flagged}, Choices.{IsTried}, Cores.{Allow, Forbid}}
use Rattle.axiom_core.proofs.Taking.{same_taken, all_taken, fewer_allow}

-- a place whose flag is cleared is left out
pub cleared : (flags : List Bool) (i : ℕ) → i < length flags → (k : ℕ) → flagged (set flags i false) k ≡ less i (flagged flags) k
cleared flags i inside k = elim (eqb_tells k i) [ inl same ↦ at same.0 same.1 | inr other ↦ apart other.0 other.1 ]
  where
    at : eqb k i ≡ true → k ≡ i → flagged (set flags i false) k ≡ less i (flagged flags) k
    at e same =
        ap (flagged (set flags i false)) same ∙ get_or-set_same flags i false false inside
        ∙ sym (and-false (flagged flags k)) ∙ ap (λ b. flagged flags k && not b) (sym e)

    apart : eqb k i ≡ false → (k ≡ i → ⊥) → flagged (set flags i false) k ≡ less i (flagged flags) k
    apart e other =
        get_or-set_other flags i k false false other
        ∙ sym (and-true (flagged flags k)) ∙ ap (λ b. flagged flags k && not b) (sym e)

-- a place that is left out is not chosen
less_other : (i : ℕ) (keep : Choice) (k : ℕ) → IsTrue (less i keep k) → k ≡ i → ⊥
less_other i keep k h same =
    let e : eqb k i ≡ true = eq-eqb k i same in
    let f : not (eqb k i) ≡ true = and_second (keep k) (not (eqb k i)) h in
    let g : not true ≡ true = ap not (sym e) ∙ f in cc

module _ (c : Case) (ps : List PlainClosed) where
  pub tried_none : Forbid c ps → IsTried c ps (replicate (length ps) true) 0
  tried_none none = record {
    size = length-replicate (length ps) true;
    forbidden =
        let P : List PlainClosed → Type 0 = λ qs. Forbid c qs in
        subst P (sym (all_taken (flagged (replicate (length ps) true)) ps (λ k inside. get_or-replicate (length ps) k true false inside))) none;
    needed = λ k before kept. absurd (omega arith);
  }

  module _ (flags : List Bool) (i : ℕ) (t : IsTried c ps flags i) where
    -- the axiom stays, as the others allow
    pub tried_kept : Allow c (taken (less i (flagged flags)) ps) → IsTried c ps flags (i + 1)
    tried_kept allowed = record {
      size = t.size;
      forbidden = t.forbidden;
      needed = λ k before kept. elim (cases_lt k i) [
        | inl lower ↦ t.needed k lower kept
        | inr past ↦
            let same : i ≡ k = omega arith in
            let P : ℕ → Type 0 = λ j. Allow c (taken (less j (flagged flags)) ps) in subst P same allowed
      ];
    }

    -- the axiom is taken out, as the others forbid
    pub tried_dropped : i < length flags → Forbid c (taken (less i (flagged flags)) ps) → IsTried c ps (set flags i false) (i + 1)
    tried_dropped inside none =
        let new = flagged (set flags i false) in
        record {
          size = length-set flags i false ∙ t.size;
          forbidden =
              let P : List PlainClosed → Type 0 = λ qs. Forbid c qs in
              subst P (sym (same_taken new (less i (flagged flags)) ps (λ k h. cleared flags i inside k))) none;
          needed = λ k before kept.
              let left : IsTrue (less i (flagged flags) k) = sym (cleared flags i inside k) ∙ kept in
              let apart : k ≡ i → ⊥ = less_other i (flagged flags) k left in
              fewer_allow c ps (less k (flagged flags)) (less k new)
              (λ j h.
              and_from (flagged flags j) (not (eqb j k))
              (and_first (flagged flags j) (not (eqb j i)) (sym (cleared flags i inside j) ∙ and_first (new j) (not (eqb j k)) h))
              (and_second (new j) (not (eqb j k)) h))
              (t.needed k (omega arith) (and_first (flagged flags k) (not (eqb k i)) left));
        }
