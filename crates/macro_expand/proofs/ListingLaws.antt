-- Names that are listed once are all that are listed, and each has a number.
use Rattle.std.proofs.Common.{◌≡◌, ℕ, ◌<◌, Bool, true, false, not, ◌||◌, List, [], ◌∷◌, ◌++◌, map, length, take, get_or, ◌+◌, subst, Option, Some, None, cond, if◌then◌else◌, Bor, refl, sym, ap, ◌∙◌, true≢false, All, arith, lt-ltb}
use Rattle.std.proofs.lemmas.{List.{Folds.{list_any-append}, Elements.{All-weaker, All-more}}, Slice.Eq.{bytes_eq-Decides}}
use Rattle.std.specs.List.{list_any, position_or_len}
use Rattle.indexmap.specs.IndexSet.{insert_key}
use Rattle.pc_common.{specs.Names.{same_name}, proofs.Bools.{or_true}}
use Rattle.macro_expand.specs.Numbers.{name_bytes, IsAmong, number_of, number_bytes, unlisted, short_name}

pub any_name : (test : List ℕ → Bool) (ks : List (Bor (List ℕ))) → list_any (λ k. test k.now) ks ≡ list_any test (map name_bytes ks)
any_name test [] = refl
any_name test (k ∷ ks) = ap (λ b. test k.now || b) (any_name test ks)

abbrev pub same_bytes : Bor (List ℕ) → Bor (List ℕ) → Bool
same_bytes a b = same_name a.now b.now

same_self : (w : List ℕ) → same_name w w ≡ true
same_self w = (bytes_eq-Decides w w).1 refl

-- a key more
among_more : (ks : List (Bor (List ℕ))) (x : Bor (List ℕ)) (w : List ℕ)
    → list_any (same_name w) (map name_bytes (ks ++ x ∷ [])) ≡ (list_any (same_name w) (map name_bytes ks) || (same_name w x.now || false))
among_more ks x w =
    sym (any_name (same_name w) (ks ++ x ∷ [])) ∙ list_any-append (λ k. same_name w k.now) ks (x ∷ [])
    ∙ ap (λ b. b || (same_name w x.now || false)) (any_name (same_name w) ks)

among_kept : (ks : List (Bor (List ℕ))) (x : Bor (List ℕ)) (w : List ℕ) → IsAmong (map name_bytes ks) w
    → IsAmong (map name_bytes (insert_key same_bytes ks x)) w
among_kept ks x w e = by (list_any (same_bytes x) ks)
  where
    by : (b : Bool) → IsAmong (map name_bytes (if b then ks else ks ++ x ∷ [])) w
    by true = e
    by false = among_more ks x w ∙ ap (λ b. b || (same_name w x.now || false)) e

among_new : (ks : List (Bor (List ℕ))) (x : Bor (List ℕ)) → IsAmong (map name_bytes (insert_key same_bytes ks x)) x.now
among_new ks x = by (list_any (same_bytes x) ks) refl
  where
    by : (b : Bool) → list_any (same_bytes x) ks ≡ b → IsAmong (map name_bytes (if b then ks else ks ++ x ∷ [])) x.now
    by true e = sym (any_name (same_name x.now) ks) ∙ e
    by false e =
        among_more ks x x.now ∙ ap (λ b. list_any (same_name x.now) (map name_bytes ks) || (b || false)) (same_self x.now)
        ∙ or_true (list_any (same_name x.now) (map name_bytes ks))

-- a name among these has a number
place_within : (test : List ℕ → Bool) (names : List (List ℕ)) → list_any test names ≡ true → position_or_len test names < length names
place_within test [] e = absurd (true≢false (sym e))
place_within test (x ∷ xs) e = by (test x) e (place_within test xs)
  where
    by : (b : Bool) → (b || list_any test xs) ≡ true → (list_any test xs ≡ true → position_or_len test xs < length xs)
        → cond (not b) (1 + position_or_len test xs) 0 < length (x ∷ xs)
    by true e rest = omega arith
    by false e rest = let within = rest e in omega arith

-- so its short name has eight bytes
pub short_among : (names : List (List ℕ)) (name : List ℕ) → IsAmong names name → length (short_name names name) ≡ 8
unfolding short_name number_of number_bytes
short_among names name e =
    let n = position_or_len (same_name name) names in
    let short : Option ℕ → List ℕ = λ o. elim o [ None ↦ unlisted name | Some k ↦ number_bytes k ] in
    ap (λ b. length {A = ℕ} (short (cond b (Some n) None))) (lt-ltb n (length names) (place_within (same_name name) names e))

-- one item more, inserted into the keys
pub once_more : (items : List (Bor (List ℕ))) (k : ℕ) (x : Bor (List ℕ)) (keys : List (Bor (List ℕ))) → k < length items → get_or items k x ≡ x
    → All (λ y. IsAmong (map name_bytes keys) y.now) (take k items)
    → All (λ y. IsAmong (map name_bytes (insert_key same_bytes keys x)) y.now) (take (k + 1) items)
once_more items k x keys lt here before =
    let after = map name_bytes (insert_key same_bytes keys x) in
    All-more (λ y. IsAmong after y.now) items k x lt
    (All-weaker (λ y. IsAmong (map name_bytes keys) y.now) (λ y. IsAmong after y.now) (λ y. among_kept keys x y.now) (take k items) before)
    (subst (λ y. IsAmong after y.now) (sym here) (among_new keys x))
