-- A checker that is fed the first bytes of a file, and then the rest.
use Rattle.std.proofs.Common.{◌≡◌, ◌⊎◌, inl, inr, ℕ, ◌-◌, ◌≤◌, ◌<◌, List, [], ◌++◌, length, refl, sym, ◌∙◌, ap, subst, arith, append_assoc, length-append}
use Rattle.command_base.specs.Feeding.{Took, TookFirst}
use Rattle.verify_command.specs.Reading.{IsEnough}

module _ {C Q : Type 0} (is_fed : C → Q → List ℕ → Type 0) where
  -- few first bytes are all
  pub took_few : {old new : C} (limit : ℕ) {left : List ℕ} (first : List ℕ) → length first ≤ limit → Took is_fed old new first
      → length first < 13 → IsEnough first left → TookFirst is_fed old new limit (first ++ left) left
  took_few limit {left} first short took few enough = record {
    bytes = first;
    are_first = refl;
    within = short;
    enough = all enough;
    took = took;
  }
    where
      all : IsEnough first left → (left ≡ []) ⊎ (length first ≡ limit)
      all (inl many) = absurd (omega (arith, few, many))
      all (inr none) = inl none

  -- what was read before is taken first
  pub took_then : {old mid new : C} (limit : ℕ) {left after : List ℕ} (first : List ℕ) → length first ≤ limit → Took is_fed old mid first
      → TookFirst is_fed mid new (limit - length first) left after → TookFirst is_fed old new limit (first ++ left) after
  took_then {old} {mid} {new} limit {left} {after} first short took t = record {
    bytes = first ++ t.bytes;
    are_first = ap (λ (xs : List ℕ). first ++ xs) t.are_first ∙ sym (append_assoc first t.bytes after);
    within = (let a = length-append first t.bytes in let b = t.within in omega (arith, short));
    enough = most t.enough;
    took = λ q text fed. subst (λ (u : List ℕ). is_fed new q u) (append_assoc text first t.bytes) (t.took q (text ++ first) (took q text fed));
  }
    where
      most : (after ≡ []) ⊎ (length t.bytes ≡ limit - length first) → (after ≡ []) ⊎ (length (first ++ t.bytes) ≡ limit)
      most (inl none) = inl none
      most (inr long) = inr (let a = length-append first t.bytes in omega (arith, short, long))
