-- Values and locations that are looked up by name.
use Rattle.std.proofs.Common.{◌≡◌, ℕ, ◌+◌, Bool, true, false, not, List, [], ◌∷◌, ◌++◌, map, length, Option, Some, None, cond, Bor, if◌then◌else◌, nat_lt, refl, ap, ◌∙◌, arith}
use Rattle.std.{proofs.lemmas.{Bool.{ltb-false}, List.{map-append, Sums.{prefix_len-le-length}}}, specs.{Prelude.{◌||◌}, Map.{lookup}}}
use Rattle.std.specs.List.{list_any, position, position_or_len}
use Rattle.indexmap.{specs.{IndexMap.{IndexMap, insert_entry}, IndexSet.{insert_key}}, proofs.CallerLemmas.{insert_entry-new}}
use Rattle.pc_common.specs.Names.{same_name}
use Rattle.x86_litmus.specs.{Cases.{seen, number_of}, Faults.{value_at}, Values.{plain_entry, plain_word}}

pub look_up : (es : List (Bor (List ℕ) × ℕ)) (w : List ℕ) → lookup (λ k. same_name w k.now) es ≡ value_at (map plain_entry es) w
look_up [] w = refl
look_up (e ∷ es) w = ap (λ (o : Option ℕ). cond (same_name w e.0.now) (Some e.1) o) (look_up es w)

pub value_more : {S : Type 0} (m : IndexMap (Bor (List ℕ)) ℕ S) (new : List (Bor (List ℕ) × ℕ)) (k : Bor (List ℕ)) (v : ℕ)
    → lookup (λ x. same_name k.now x.now) m.entries ≡ None
    → new ≡ insert_entry (λ x y. same_name x.now y.now) m.entries k v
    → map plain_entry new ≡ map plain_entry m.entries ++ (k.now, v) ∷ []
value_more m new k v none put =
    ap (map plain_entry) (put ∙ insert_entry-new (λ x y. same_name x.now y.now) m k v none)
    ∙ map-append plain_entry m.entries ((k, v) ∷ [])

any_word : (w : List ℕ) (ks : List (Bor (List ℕ))) → list_any (λ y. same_name w y.now) ks ≡ list_any (same_name w) (map plain_word ks)
any_word w [] = refl
any_word w (k ∷ ks) = ap (λ (b : Bool). same_name w k.now || b) (any_word w ks)

pub seen_word : (ks : List (Bor (List ℕ))) (k : Bor (List ℕ))
    → map plain_word (insert_key (λ x y. same_name x.now y.now) ks k) ≡ seen (map plain_word ks) k.now
seen_word ks k = by (list_any (λ y. same_name k.now y.now) ks) (any_word k.now ks)
  where
    by : (b : Bool) → b ≡ list_any (same_name k.now) (map plain_word ks)
        → map plain_word (if b then ks else ks ++ k ∷ []) ≡ seen (map plain_word ks) k.now
    by true e = ap (λ (c : Bool). if c then map plain_word ks else map plain_word ks ++ k.now ∷ []) e
    by false e =
        map-append plain_word ks (k ∷ []) ∙ ap (λ (c : Bool). if c then map plain_word ks else map plain_word ks ++ k.now ∷ []) e

place_of : (w : List ℕ) (ks : List (Bor (List ℕ))) → position_or_len (λ k. same_name w k.now) ks ≡ number_of (map plain_word ks) w
place_of w [] = refl
place_of w (k ∷ ks) = ap (λ n. cond (not (same_name w k.now)) (1 + n) 0) (place_of w ks)

pub number_some : (w : List ℕ) (ks : List (Bor (List ℕ))) (n : ℕ) → Some n ≡ position (λ k. same_name w k.now) ks → n ≡ number_of (map plain_word ks) w
number_some w ks n e = by (nat_lt (position_or_len (λ k. same_name w k.now) ks) (length ks)) e ∙ place_of w ks
  where
    by : (b : Bool) → Some n ≡ cond b (Some (position_or_len (λ k. same_name w k.now) ks)) None → n ≡ position_or_len (λ k. same_name w k.now) ks
    by true h = cc
    by false h = cc

pub number_none : (w : List ℕ) (ks : List (Bor (List ℕ))) → None ≡ position (λ k. same_name w k.now) ks → length ks ≡ number_of (map plain_word ks) w
number_none w ks e = by (nat_lt (position_or_len (λ k. same_name w k.now) ks) (length ks)) refl e ∙ place_of w ks
  where
    by : (b : Bool) → nat_lt (position_or_len (λ k. same_name w k.now) ks) (length ks) ≡ b
        → None ≡ cond b (Some (position_or_len (λ k. same_name w k.now) ks)) None → length ks ≡ position_or_len (λ k. same_name w k.now) ks
    by true h f = absurd (let g : None ≡ Some (position_or_len (λ k. same_name w k.now) ks) = f in cc)
    by false h f =
        let low = ltb-false (position_or_len (λ k. same_name w k.now) ks) (length ks) h in
        let high = prefix_len-le-length (λ k. not (same_name w k.now)) ks in
        omega (arith, low, high)
