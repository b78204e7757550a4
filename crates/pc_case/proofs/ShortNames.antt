-- Short names as keys of one length, and what one more name changes in a set of short and long ones.
use Rattle.std.proofs.Common.{◌≡◌, ℕ, ◌+◌, ◌-◌, ◌≤◌, nat_le, ◌&&◌, ◌||◌, Bool, true, false, List, [], ◌∷◌, ◌++◌, Some, None, length, set, take, drop, replicate, get_or, refl, sym, ap, ◌∙◌, true≢false, arith, if◌then◌else◌}
use Rattle.std.proofs.lemmas.Bool.{leb-true, false_from_ne_true}
use Rattle.std.proofs.lemmas.List.{take-append-le, take_all, length-append, length-replicate, drop-replicate, replicate_more, append_assoc}
use Rattle.std.{proofs.lemmas.Map.Made.{is_some-lookup}, specs.{Prelude.{is_some}, Map.{lookup}, Cmp.Lexicographic.{bytes_decides}, HashMap.{Updates}}}
use Rattle.pc_common.specs.Names.{same_name}
use Rattle.pc_case.{specs.{declared.name_set.NameSet.{NameSet}, NameSets.{padded, is_short, has_long, has_name}}, proofs.Lookups.{or_false, key_put}}

-- the last of a list is written
put_last : (xs : List ℕ) (x y : ℕ) → set (xs ++ x ∷ []) (length xs) y ≡ xs ++ y ∷ []
put_last [] x y = refl
put_last (z ∷ xs) x y = ap (λ ys. z ∷ ys) (put_last xs x y)

get_last : (xs : List ℕ) (x : ℕ) → get_or (xs ++ x ∷ []) (length xs) 0 ≡ x
get_last [] x = refl
get_last (z ∷ xs) x = get_last xs x

abbrev zeros : ℕ → List ℕ
zeros n = replicate n 0

-- a short name with its zeros has 15 bytes
abbrev filled : List ℕ → List ℕ
filled name = name ++ zeros (15 - length name)

module _ (name : List ℕ) (fits : length name ≤ 15) where
  length-filled : length (filled name) ≡ 15
  length-filled = omega (arith, fits, length-append name (zeros (15 - length name)), length-replicate {A = ℕ} (15 - length name) 0)

  -- what the code writes
  pub is_padded : set (name ++ drop (length name) (zeros 16)) 15 (length name) ≡ padded name
  is_padded =
      let more : 16 - length name ≡ 15 - length name + 1 = omega (arith, fits) in
      let rest : drop (length name) (zeros 16) ≡ zeros (15 - length name) ++ 0 ∷ [] =
      drop-replicate (length name) 16 0 ∙ ap zeros more ∙ sym (replicate_more (15 - length name) 0) in
      ap (λ zs. set (name ++ zs) 15 (length name)) rest
      ∙ ap (λ ns. set ns 15 (length name)) (sym (append_assoc name (zeros (15 - length name)) (0 ∷ [])))
      ∙ ap (λ n. set (filled name ++ 0 ∷ []) n (length name)) (sym length-filled)
      ∙ put_last (filled name) 0 (length name)

  padded_length : get_or (padded name) 15 0 ≡ length name
  padded_length = ap (λ n. get_or (padded name) n 0) (sym length-filled) ∙ get_last (filled name) (length name)

  padded_name : take (length name) (padded name) ≡ name
  padded_name =
      ap (take (length name)) (append_assoc name (zeros (15 - length name)) (length name ∷ []))
      ∙ take-append-le (length name) name (zeros (15 - length name) ++ length name ∷ []) (omega arith)
      ∙ take_all (length name) name (omega arith)

-- two short names are one where their keys are
module _ (p q : List ℕ) (p_fits : length p ≤ 15) (q_fits : length q ≤ 15) where
  unpadded : padded p ≡ padded q → p ≡ q
  unpadded e =
      let lengths : length p ≡ length q = sym (padded_length p p_fits) ∙ ap (λ ns. get_or ns 15 0) e ∙ padded_length q q_fits in
      sym (padded_name p p_fits) ∙ (λ i. take (lengths i) (e i)) ∙ padded_name q q_fits

  same_key : same_name (padded p) (padded q) ≡ same_name p q
  same_key = by (same_name p q) refl
    where
      by : (b : Bool) → same_name p q ≡ b → same_name (padded p) (padded q) ≡ same_name p q
      by true e = (bytes_decides (padded p) (padded q)).1 (ap padded ((bytes_decides p q).0 e)) ∙ sym e
      by false e =
          false_from_ne_true (same_name (padded p) (padded q))
          (λ h. true≢false (sym ((bytes_decides p q).1 (unpadded ((bytes_decides (padded p) (padded q)).0 h))) ∙ e))
          ∙ sym e

-- what the key of a name, or that it has none, says of its length
pub keyed : (name key : List ℕ) → Some key ≡ (if nat_le (length name) 15 then Some (padded name) else None)
    → (nat_le (length name) 15 ≡ true) × (key ≡ padded name)
keyed name key e = by (nat_le (length name) 15) refl
  where
    by : (b : Bool) → nat_le (length name) 15 ≡ b → (nat_le (length name) 15 ≡ true) × (key ≡ padded name)
    by true h = let is : Some key ≡ Some (padded name) = rw h at e in (h, cc)
    by false h = let is : Some key ≡ None = rw h at e in cc

-- a short name is looked up by its key
pub short_known : (names : NameSet) (name key : List ℕ) → nat_le (length name) 15 ≡ true → key ≡ padded name
    → is_some (lookup (same_name key) names.short.entries) ≡ has_name names name
short_known names name key fits is =
    ap (λ k. is_some (lookup (same_name k) names.short.entries)) is
    ∙ is_some-lookup (same_name (padded name)) names.short.entries
    ∙ ap (λ b. if b then is_short names.short name else has_long names.long name) (sym fits)

-- a short name is no long one
short_or_long : (p q : List ℕ) → nat_le (length p) 15 ≡ true → nat_le (length q) 15 ≡ false → same_name p q ≡ false
short_or_long p q e f =
    false_from_ne_true (same_name p q) (λ h. true≢false (sym e ∙ ap (λ n. nat_le (length n) 15) ((bytes_decides p q).0 h) ∙ f))

nothing_more : (a b s : Bool) → s ≡ false → a ≡ (a || (b && s))
nothing_more a true s e = or_false a ∙ ap (λ t. a || t) (sym e)
nothing_more a false s e = or_false a

-- one more name, where it is a short one and where it is a long one
module _ (old new : NameSet) (p : List ℕ) where
  pub short_added : (key : List ℕ) → nat_le (length p) 15 ≡ true → key ≡ padded p → new.long ≡ old.long
      → Updates same_name old.short new.short key (Some tt)
      → (q : List ℕ) → has_name new q ≡ (has_name old q || same_name p q)
  short_added key fits is same put q = by (nat_le (length q) 15) refl
    where
      by : (b : Bool) → nat_le (length q) 15 ≡ b → has_name new q ≡ (has_name old q || same_name p q)
      by true e = rw e
          (key_put (λ k. k) (padded q) old.short new.short key (padded p) is put
          ∙ ap (λ b. is_short old.short q || b) (same_key p q (leb-true (length p) 15 fits) (leb-true (length q) 15 e)))
      by false e = rw e (ap (λ l. has_long l q) same ∙ nothing_more (has_long old.long q) true (same_name p q) (short_or_long p q fits e))
