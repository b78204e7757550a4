-- Two short names are one exactly where the names are.
use Rattle.std.proofs.Common.{◌≡◌, ℕ, ◌+◌, ◌<◌, ◌^◌, Bool, true, false, not, List, [], ◌∷◌, ◌++◌, map, length, drop, replicate, length-append, get_or, Option, Some, None, cond, Bor, nat_lt, suc, slice_get, refl, sym, ap, ◌∙◌, true≢false, arith}
use Rattle.std.proofs.lemmas.{Nat.{from_le_bytes-to_le_bytes_8}, List.{length_push, Quantifiers.{position-Some}}, Slice.Eq.{bytes_eq-Decides}}
use Rattle.std.specs.{List.{position, position_or_len}, Int.{w64, from_le_bytes}}
use Rattle.pc_common.{specs.Names.{same_name}, proofs.Places.{get_before, get_last}}
use Rattle.pc_syntax.specs.Renaming.{KeepsApart}
use Rattle.macro_expand.specs.Numbers.{name_bytes, number_of, number_bytes, HasNumbers, unlisted, short_name}
use borrow.Author.Count.{below_more}

place_of : (w : List ℕ) (ks : List (Bor (List ℕ))) → position_or_len (λ k. same_name w k.now) ks ≡ position_or_len (same_name w) (map name_bytes ks)
place_of w [] = refl
place_of w (k ∷ ks) = ap (λ n. cond (not (same_name w k.now)) (1 + n) 0) (place_of w ks)

pub many_of : (ks : List (Bor (List ℕ))) → length ks ≡ length (map name_bytes ks)
many_of [] = refl
many_of (k ∷ ks) = ap suc (many_of ks)

-- the position that a look-up finds is a name's number
pub number_found : (w : List ℕ) (ks : List (Bor (List ℕ))) → position (λ k. same_name w k.now) ks ≡ number_of (map name_bytes ks) w
unfolding number_of
number_found w ks = λ i. cond (nat_lt (place_of w ks i) (many_of ks i)) (Some (place_of w ks i)) None

-- what a name of this number is
named_at : (names : List (List ℕ)) (name : List ℕ) (n : ℕ) → number_of names name ≡ Some n → name ≡ get_or names n []
unfolding number_of
named_at names name n e = (bytes_eq-Decides name (get_or names n [])).0 (position-Some (same_name name) names n [] e).1

numbered_within : (names : List (List ℕ)) (name : List ℕ) (n : ℕ) → number_of names name ≡ Some n → n < length names
unfolding number_of
numbered_within names name n e = (position-Some (same_name name) names n [] e).0

same_number : (m n : ℕ) → m < 2 ^ 64 → n < 2 ^ 64 → number_bytes m ≡ number_bytes n → m ≡ n
unfolding number_bytes
same_number m n h k e =
    sym (from_le_bytes-to_le_bytes_8 m h) ∙ ap (from_le_bytes w64) e ∙ from_le_bytes-to_le_bytes_8 n k

-- a number has eight bytes, and an unlisted name nine more than it had
long_name : (name : List ℕ) → length (unlisted name) ≡ 9 + length name
long_name name = length-append (replicate 9 0) name

no_number : (n : ℕ) (name : List ℕ) → number_bytes n ≡ unlisted name → 9 + length name ≡ 8
unfolding number_bytes
no_number n name e = sym (long_name name) ∙ sym (ap length e)

abbrev short_of : List ℕ → Option ℕ → List ℕ
short_of name o = elim o [ None ↦ unlisted name | Some n ↦ number_bytes n ]

module _ (names : List (List ℕ)) (few : length names < 2 ^ 63) where
  one_name : (a b : List ℕ) → short_name names a ≡ short_name names b → a ≡ b
  unfolding short_name
  one_name a b = by (number_of names a) (number_of names b) refl refl
    where
      by : (o p : Option ℕ) → number_of names a ≡ o → number_of names b ≡ p → short_of a o ≡ short_of b p → a ≡ b
      by None None e f same = ap (drop 9) same
      by None (Some n) e f same = absurd (omega (arith, no_number n a (sym same)))
      by (Some m) None e f same = absurd (omega (arith, no_number m b same))
      by (Some m) (Some n) e f same =
          let here = numbered_within names a m e in
          let there = numbered_within names b n f in
          let number = same_number m n (omega (arith, few, here)) (omega (arith, few, there)) same in
          named_at names a m e ∙ ap (λ k. get_or names k []) number ∙ sym (named_at names b n f)

  pub keeps_apart : KeepsApart (short_name names)
  keeps_apart a b = by (same_name (short_name names a) (short_name names b)) (same_name a b) refl refl
    where
      by : (s t : Bool) → same_name (short_name names a) (short_name names b) ≡ s → same_name a b ≡ t → s ≡ t
      by true true e f = refl
      by false false e f = refl
      by true false e f =
          absurd (true≢false (sym ((bytes_eq-Decides a b).1 (one_name a b ((bytes_eq-Decides (short_name names a) (short_name names b)).0 e))) ∙ f))
      by false true e f =
          absurd (true≢false (sym ((bytes_eq-Decides (short_name names a) (short_name names b)).1 (ap (short_name names) ((bytes_eq-Decides a b).0 f))) ∙ e))

-- the short name of a name that a look-up finds, and of one that it does not find
pub short_listed : (w : List ℕ) (ks : List (Bor (List ℕ))) (n : ℕ) → Some n ≡ position (λ k. same_name w k.now) ks
    → number_bytes n ≡ short_name (map name_bytes ks) w
unfolding short_name
short_listed w ks n e = ap (short_of w) (e ∙ number_found w ks)

pub short_unlisted : (w : List ℕ) (ks : List (Bor (List ℕ))) → None ≡ position (λ k. same_name w k.now) ks
    → unlisted w ≡ short_name (map name_bytes ks) w
unfolding short_name
short_unlisted w ks e = ap (short_of w) (e ∙ number_found w ks)

pub one_item : {A : Type 0} (xs : List A) (n : ℕ) (x y : A) → slice_get xs n ≡ Some x → slice_get xs n ≡ Some y → x ≡ y
one_item xs n x y e f = let g = sym e ∙ f in cc

-- one more number
pub numbers_more : (xs : List (List ℕ)) (n : ℕ) (x : List ℕ) → length xs ≡ n → HasNumbers xs n → x ≡ number_bytes n
    → (length (xs ++ x ∷ []) ≡ n + 1) × HasNumbers (xs ++ x ∷ []) (n + 1)
numbers_more xs n x many known is = (
  length_push xs x ∙ ap (λ m. m + 1) many,
  below_more (λ k. slice_get (xs ++ x ∷ []) k ≡ Some (number_bytes k)) n
      (λ k below. get_before xs (x ∷ []) k (omega (arith, many, below)) ∙ known k below)
      (ap (slice_get (xs ++ x ∷ [])) (sym many) ∙ get_last xs x ∙ ap Some is),
)
