-- The words that were read as numbers so far.
use Rattle.std.{proofs.{Common.{◌≡◌, ℕ, List, ◌∷◌, ◌++◌, inl, map, refl, sym, ◌∙◌, subst}, lemmas.List.Elements.{All-contains}}, specs.Prelude.{All}}
use Rattle.std.specs.Fmt.{decimal}
use Rattle.pc_common.proofs.Elements.{In, in_back, from_map, contains_from_in}
use Rattle.pc_ground.specs.Decimals.{IsDecimal}
use Rattle.lifted_check.specs.StepLines.{IsSmall}

-- of the words all but `left` were read
pub record ReadSoFar (ws left : List (List ℕ)) (ns : List ℕ) : Type 0 where
  pub are : ws ≡ map decimal ns ++ left
  pub small : All IsSmall ns

pub row_stop : (ws : List (List ℕ)) (w : List ℕ) (left : List (List ℕ)) (ns : List ℕ) → ReadSoFar ws (w ∷ left) ns → ((n : ℕ) → IsDecimal w n → ⊥)
    → (ks : List ℕ) → All IsSmall ks → ws ≡ map decimal ks → ⊥
row_stop ws w left ns h none ks small e =
    let P : List (List ℕ) → Type 0 = λ vs. In w vs in
    let from = from_map decimal w ks (subst P (sym h.are ∙ e) (in_back w (map decimal ns) (w ∷ left) (inl refl))) in
    none from.0 (All-contains IsSmall ks from.0 small (contains_from_in from.0 ks from.1), sym from.2)
