-- Lists that stand one after another in one list: one more of them, and the one at a place.
use Rattle.std.proofs.Common.{◌≡◌, ◌≤◌, ◌<◌, ◌+◌, ◌-◌, ◌++◌, ◌∷◌, [], ◌||◌, ◌∙◌, Bool, false, sym, ap, refl, ℕ, zero, suc, List, Some, length, get_or, take, drop, arith}
use Rattle.std.proofs.lemmas.List.{take-append-le, drop-append-le, take_all, take_more, drop_at, length-drop, length-append, Folds.{list_any-append}}
use Rattle.std.{proofs.lemmas.Option.{get_or_from_slice_get, slice_get_within}, specs.{Prelude.{slice_get}, List.{list_any}}}
use Rattle.pc_common.specs.Names.{same_name}
use Rattle.pc_case.{specs.{declared.name_set.NameSet.{NameSet}, NameSets.{has_name, AreNamesOf}, Cuts.{cuts, Rises}}, proofs.Lookups.{or_false}}

pub length-cuts : (bytes : List ℕ) (from : ℕ) (ends : List ℕ) → length (cuts bytes from ends) ≡ length ends
unfolding cuts
length-cuts bytes from [] = refl
length-cuts bytes from (end ∷ ends) = ap suc (length-cuts bytes end ends)

-- the first begins where the last ends, or before
in_order : (from : ℕ) (ends : List ℕ) (last : ℕ) → Rises from ends last → from ≤ last
unfolding Rises
in_order from [] last rises = omega (arith, rises)
in_order from (end ∷ ends) last rises = omega (arith, rises.0, in_order end ends last rises.1)

-- one more end
one_end_more : (from : ℕ) (ends : List ℕ) (last more : ℕ) → Rises from ends last → last ≤ more → Rises from (ends ++ more ∷ []) more
unfolding Rises
one_end_more from [] last more rises within = (omega (arith, rises, within), refl)
one_end_more from (end ∷ ends) last more rises within = (rises.0, one_end_more end ends last more rises.1 within)

-- what is put after all of them leaves each as it is
before : (bytes piece : List ℕ) (from end : ℕ) → from ≤ end → end ≤ length bytes
    → take (end - from) (drop from (bytes ++ piece)) ≡ take (end - from) (drop from bytes)
before bytes piece from end up within =
    ap (take (end - from)) (drop-append-le from bytes piece (omega (arith, up, within)))
    ∙ take-append-le (end - from) (drop from bytes) piece (omega (arith, length-drop from bytes, up, within))

one_piece_more : (bytes piece : List ℕ) (from : ℕ) (ends : List ℕ) (last : ℕ) → Rises from ends (length bytes)
    → last ≡ length bytes + length piece → cuts (bytes ++ piece) from (ends ++ last ∷ []) ≡ cuts bytes from ends ++ piece ∷ []
unfolding Rises cuts
one_piece_more bytes piece from [] last rises is =
    ap (λ p. p ∷ []) (ap (take (last - from)) (drop_at bytes piece from (sym rises)) ∙ take_all (last - from) piece (omega (arith, rises, is)))
one_piece_more bytes piece from (end ∷ ends) last rises is =
    ap (λ p. p ∷ cuts (bytes ++ piece) end (ends ++ last ∷ [])) (before bytes piece from end rises.0 (in_order end ends (length bytes) rises.1))
    ∙ ap (λ ps. take (end - from) (drop from bytes) ∷ ps) (one_piece_more bytes piece end ends last rises.1 is)

-- the one at a place
piece_at : (bytes : List ℕ) (from : ℕ) (ends : List ℕ) (k d e : ℕ) → k < length ends
    → slice_get (cuts bytes from ends) k ≡ Some (take (get_or ends k e - get_or (from ∷ ends) k d) (drop (get_or (from ∷ ends) k d) bytes))
unfolding cuts
piece_at bytes from [] k d e within = absurd (omega (arith, within))
piece_at bytes from (end ∷ ends) zero d e within = refl
piece_at bytes from (end ∷ ends) (suc k) d e within = piece_at bytes end ends k d e (omega (arith, within))

-- it stands within all of them
place_at : (from : ℕ) (ends : List ℕ) (last k d e : ℕ) → Rises from ends last → k < length ends
    → (get_or (from ∷ ends) k d ≤ get_or ends k e) × (get_or ends k e ≤ last)
unfolding Rises
place_at from [] last k d e rises within = absurd (omega (arith, within))
place_at from (end ∷ ends) last zero d e rises within = (rises.0, in_order end ends last rises.1)
place_at from (end ∷ ends) last (suc k) d e rises within = place_at end ends last k d e rises.1 (omega (arith, within))

pub piece : (bytes ends : List ℕ) (k begin end : ℕ) → Rises 0 ends (length bytes) → k < length ends
    → begin ≡ get_or (0 ∷ ends) k 0 → end ≡ get_or ends k end
    → (begin ≤ end) × (end ≤ length bytes) × (slice_get (cuts bytes 0 ends) k ≡ Some (take (end - begin) (drop begin bytes)))
piece bytes ends k begin end rises within begins ends_at =
    let place = place_at 0 ends (length bytes) k 0 end rises within in (
      omega (arith, begins, ends_at, place.0),
      omega (arith, ends_at, place.1),
      piece_at bytes 0 ends k 0 end within ∙ (λ i. Some (take (sym ends_at i - sym begins i) (drop (sym begins i) bytes))),
    )

-- one more taken
pub taken_more : (names : List (List ℕ)) (k : ℕ) (name : List ℕ) → slice_get names k ≡ Some name → take k names ++ name ∷ [] ≡ take (k + 1) names
taken_more names k name at =
    ap (λ n. take k names ++ n ∷ []) (sym (get_or_from_slice_get names k name name at)) ∙ sym (take_more names k name (slice_get_within names k name at))

-- no names
pub none_held : (bytes ends : List ℕ) (known : NameSet) → bytes ≡ [] → ends ≡ [] → ((name : List ℕ) → has_name known name ≡ false)
    → Rises 0 ends (length bytes) × AreNamesOf known (cuts bytes 0 ends) × (cuts bytes 0 ends ≡ [])
unfolding Rises cuts
none_held bytes ends known no_bytes no_ends none = rw (no_bytes, no_ends) (refl, none, refl)

-- one more name
module _ (bytes name ends more_bytes more_ends : List ℕ) (are_bytes : more_bytes ≡ bytes ++ name) (are_ends : more_ends ≡ ends ++ length more_bytes ∷ [])
    (rises : Rises 0 ends (length bytes)) where
  long : length more_bytes ≡ length bytes + length name
  long = ap length are_bytes ∙ length-append bytes name

  pub one_more_cut : cuts more_bytes 0 more_ends ≡ cuts bytes 0 ends ++ name ∷ []
  one_more_cut = ap (cuts more_bytes 0) are_ends ∙ ap (λ bs. cuts bs 0 (ends ++ length more_bytes ∷ [])) are_bytes
      ∙ one_piece_more bytes name 0 ends (length more_bytes) rises long

  pub one_more_held : (known more : NameSet) → ((other : List ℕ) → has_name more other ≡ (has_name known other || same_name name other))
      → AreNamesOf known (cuts bytes 0 ends) → Rises 0 more_ends (length more_bytes) × AreNamesOf more (cuts more_bytes 0 more_ends)
  one_more_held known more has names = (rw are_ends (one_end_more 0 ends (length bytes) (length more_bytes) rises (omega (arith, long))), held)
    where
      held : AreNamesOf more (cuts more_bytes 0 more_ends)
      held other =
          let is : List ℕ → Bool = λ known. same_name known other in
          has other ∙ (λ i. names other i || or_false (is name) i)
          ∙ sym (list_any-append is (cuts bytes 0 ends) (name ∷ [])) ∙ ap (list_any is) (sym one_more_cut)
