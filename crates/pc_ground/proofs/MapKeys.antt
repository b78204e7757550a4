-- The keys of a map after `insert`, for this crate and those above it: those of a set after it.
use Rattle.std.{proofs.Common.{◌≡◌, Bool, true, false, List, [], ◌∷◌, ◌++◌, refl, ap, ◌∙◌, if◌then◌else◌}, specs.{List.{list_any}, Map.{keys_of}}}
use Rattle.indexmap.specs.{IndexMap.{insert_entry}, IndexSet.{insert_key}}

module _ {K V : Type 0} (eq : K → K → Bool) (k : K) (v : V) where
  more_keys : (x : K) (b : Bool) (xs : List K) → x ∷ (if b then xs else xs ++ k ∷ []) ≡ (if b then x ∷ xs else x ∷ xs ++ k ∷ [])
  more_keys x true xs = refl
  more_keys x false xs = refl

  put_more : (e : K × V) (es : List (K × V)) → keys_of (insert_entry eq es k v) ≡ insert_key eq (keys_of es) k
      → keys_of (insert_entry eq (e ∷ es) k v) ≡ insert_key eq (keys_of (e ∷ es)) k
  put_more e es rest = by (eq k e.0) refl
    where
      by : (b : Bool) → eq k e.0 ≡ b → keys_of (insert_entry eq (e ∷ es) k v) ≡ insert_key eq (keys_of (e ∷ es)) k
      by true h = rw h refl
      by false h = rw h (ap (λ ks. e.0 ∷ ks) rest ∙ more_keys e.0 (list_any (eq k) (keys_of es)) (keys_of es))

  pub keys_put : (es : List (K × V)) → keys_of (insert_entry eq es k v) ≡ insert_key eq (keys_of es) k
  keys_put [] = refl
  keys_put (e ∷ es) = put_more e es (keys_put es)
