-- A checker that is fed piece by piece.
use Rattle.std.proofs.Common.{◌≡◌, inl, inr, ℕ, ◌+◌, ◌-◌, ◌≤◌, List, [], ◌∷◌, ◌++◌, length, take, refl, sym, ◌∙◌, ap, subst, arith, append_assoc, length-append}
use Rattle.std.proofs.lemmas.List.{append-nil, take-append-le, length-take-le}
use Rattle.command_base.specs.Feeding.{Took, TookFirst}

second_nil : (xs ys : List ℕ) → [] ≡ xs ++ ys → ys ≡ []
second_nil [] ys e = sym e
second_nil (x ∷ xs) ys e = cc

-- a read says that nothing is left
pub none_left : {at : List ℕ} (piece after : List ℕ) → at ≡ piece ++ after → at ≡ [] → after ≡ []
none_left piece after is none = second_nil piece after (sym none ∙ is)

pub same_left : (before bytes : List ℕ) {at : List ℕ} (piece after : List ℕ) → before ≡ bytes ++ at → at ≡ piece ++ after → at ≡ [] → before ≡ bytes ++ after
same_left before bytes piece after first is none =
    first ∙ ap (λ (xs : List ℕ). bytes ++ xs) (none ∙ sym (none_left piece after is none))

-- the checker took first bytes of what was left, and may take this many more
pub record TookSome {C Q : Type 0} (is_fed : C → Q → List ℕ → Type 0) (old new : C) (limit : ℕ) (before after : List ℕ) (left : ℕ) : Type 0 where
  pub bytes : List ℕ
  pub are_first : before ≡ bytes ++ after
  pub count : length bytes + left ≡ limit
  pub took : Took is_fed old new bytes

module _ {C Q : Type 0} (is_fed : C → Q → List ℕ → Type 0) where
  pub took_none : (c : C) (limit : ℕ) (before : List ℕ) → TookSome is_fed c c limit before before limit
  took_none c limit before = record {
    bytes = [];
    are_first = refl;
    count = omega arith;
    took = λ q text fed. subst (λ (t : List ℕ). is_fed c q t) (sym (append-nil text)) fed;
  }

  pub took_more : {old mid new : C} {limit : ℕ} {before at after : List ℕ} {left : ℕ} → TookSome is_fed old mid limit before at left
      → (piece : List ℕ) (n : ℕ) → at ≡ piece ++ after → length piece ≡ n → n ≤ left → Took is_fed mid new piece
      → TookSome is_fed old new limit before after (left - n)
  took_more {old} {mid} {new} {limit} {before} {at} {after} {left} t piece n is long fits took = record {
    bytes = t.bytes ++ piece;
    are_first = t.are_first ∙ ap (λ (xs : List ℕ). t.bytes ++ xs) is ∙ sym (append_assoc t.bytes piece after);
    count = (let a = length-append t.bytes piece in let b = t.count in omega arith);
    took = λ q text fed. subst (λ (u : List ℕ). is_fed new q u) (append_assoc text t.bytes piece) (took q (text ++ t.bytes) (t.took q text fed));
  }

  -- so with the first bytes of a buffer that a read filled
  pub took_read : {old mid new : C} {limit : ℕ} {before at after : List ℕ} {left : ℕ} → TookSome is_fed old mid limit before at left
      → (n : ℕ) (filled rest : List ℕ) → at ≡ take n filled ++ after → n ≤ length filled → n ≤ left
      → Took is_fed mid new (take n (filled ++ rest)) → TookSome is_fed old new limit before after (left - n)
  took_read {mid = mid} {new = new} t n filled rest is short fits took =
      took_more t (take n filled) n is (length-take-le n filled short) fits
      (subst (λ (piece : List ℕ). Took is_fed mid new piece) (take-append-le n filled rest short) took)

  pub took_all : {old new : C} {limit : ℕ} {before at after : List ℕ} {left : ℕ} → TookSome is_fed old new limit before at left
      → (piece : List ℕ) → at ≡ piece ++ after → at ≡ []
      → TookFirst is_fed old new limit before after
  took_all {before = before} {after = after} t piece is none = record {
    bytes = t.bytes;
    are_first = same_left before t.bytes piece after t.are_first is none;
    within = (let b = t.count in omega arith);
    enough = inl (none_left piece after is none);
    took = t.took;
  }

  -- no more is taken
  pub took_most : {old new : C} {limit : ℕ} {before after : List ℕ} {left : ℕ} → TookSome is_fed old new limit before after left
      → left ≤ 0 → TookFirst is_fed old new limit before after
  took_most t none = record {
    bytes = t.bytes;
    are_first = t.are_first;
    within = (let b = t.count in omega arith);
    enough = inr (let b = t.count in omega arith);
    took = t.took;
  }
