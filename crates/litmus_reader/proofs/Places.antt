-- What stands at the places of the tokens.
use Rattle.std.proofs.Common.{◌≡◌, ℕ, zero, suc, ◌+◌, ◌<◌, ◌≤◌, List, [], ◌∷◌, ◌++◌, Some, map, length, slice_get, drop, refl, sym, ap, subst, ◌∙◌, arith, append_assoc}
use Rattle.std.proofs.{Math.{Nat.{suc-add}, Seq.{drop-append_seam}}, lemmas.List.{length-drop, length-append}}
use Rattle.pc_common.specs.declared.place.Place.{Place}
use Rattle.uspec_lexer.specs.{Token.{Token, name}, Expected.{Expected, a_word, a_number, a_symbol, Spell}}
use Rattle.uspec_lexer.proofs.Spelling.{spell-part, spell-length, spell-get}
use Rattle.litmus_reader.specs.{Expected.{word_at, number_at}, declared.item.Numeral.{Numeral}, Reading.{StandsAt, IsNameAt, BeginsAt, NamesAt}}

slice_get-drop : {A : Type 0} (k : ℕ) (xs : List A) (j : ℕ) → slice_get (drop k xs) j ≡ slice_get xs (k + j)
slice_get-drop zero xs j = let e : j ≡ 0 + j = omega arith in ap (λ (i : ℕ). slice_get xs i) e
slice_get-drop (suc k) [] j = refl
slice_get-drop (suc k) (x ∷ xs) j = slice_get-drop k xs j ∙ ap (λ (i : ℕ). slice_get (x ∷ xs) i) (sym (suc-add k j))

drop-two : {A : Type 0} (k : ℕ) (xs ys zs : List A) → drop k xs ≡ ys ++ zs → drop (k + length ys) xs ≡ zs
drop-two zero xs ys zs e = let n : 0 + length ys ≡ length ys = omega arith in
    ap (λ (i : ℕ). drop i xs) n ∙ ap (λ l. drop (length ys) l) e ∙ drop-append_seam ys zs
drop-two (suc k) [] [] zs e = ap (λ (i : ℕ). drop i []) (suc-add k 0) ∙ e
drop-two (suc k) [] (y ∷ ys) zs e = absurd (cc)
drop-two (suc k) (x ∷ xs) ys zs e = ap (λ (i : ℕ). drop i (x ∷ xs)) (suc-add k (length ys)) ∙ drop-two k xs ys zs e

-- the token at a place of what begins there
pub stands : {ts : List Token} {k : ℕ} (es : List Expected) → BeginsAt ts k es → (j : ℕ) (e : Expected) → slice_get es j ≡ Some e
    → StandsAt ts (k + j) e
stands {ts} {k} es b j e at =
    let (t, here, is) = spell-get (es ++ b.others) (drop k ts) j e b.spell (slice_get-front es b.others j e at) in
    record { token = t; at = sym (slice_get-drop k ts j) ∙ here; is = is }
  where
    slice_get-front : (xs ys : List Expected) (i : ℕ) (x : Expected) → slice_get xs i ≡ Some x → slice_get (xs ++ ys) i ≡ Some x
    slice_get-front [] ys i x at = absurd (cc)
    slice_get-front (z ∷ xs) ys zero x at = at
    slice_get-front (z ∷ xs) ys (suc i) x at = slice_get-front xs ys i x at

-- the first token of what begins there
pub stands-first : {ts : List Token} {k : ℕ} (e : Expected) (es : List Expected) → BeginsAt ts k (e ∷ es) → StandsAt ts k e
stands-first {ts} {k} e es b =
    let n : k + 0 ≡ k = omega arith in subst (λ (i : ℕ). StandsAt ts i e) n (stands (e ∷ es) b 0 e refl)

-- a number with its place is a number
pub number-stands : {ts : List Token} {k : ℕ} (n : Numeral) → StandsAt ts k (number_at n) → StandsAt ts k (a_number n.value)
number-stands n s = record { token = s.token; at = s.at; is = s.is.0 }

-- what stands after it
pub spell-behind : (ts : List Token) (k : ℕ) (es fs : List Expected) → Spell (es ++ fs) (drop k ts) → Spell fs (drop (k + length es) ts)
spell-behind ts k es fs s =
    let (us, vs, same, front, back) = spell-part es fs (drop k ts) s in
    let n = spell-length es us front in
    let at : drop (k + length us) ts ≡ vs = drop-two k ts us vs same in
    subst (Spell fs) (sym at ∙ ap (λ (i : ℕ). drop (k + i) ts) (sym n)) back

-- what begins after it
pub begins-behind : {ts : List Token} {k : ℕ} (es fs : List Expected) → BeginsAt ts k (es ++ fs) → BeginsAt ts (k + length es) fs
begins-behind {ts} {k} es fs b = record {
  others = b.others;
  spell = spell-behind ts k es (fs ++ b.others) (subst (λ (xs : List Expected). Spell xs (drop k ts)) (append_assoc es fs b.others) b.spell);
}

-- the front of what begins there
pub begins-front : {ts : List Token} {k : ℕ} (es fs : List Expected) → BeginsAt ts k (es ++ fs) → BeginsAt ts k es
begins-front {ts} {k} es fs b = record {
  others = fs ++ b.others;
  spell = subst (λ (xs : List Expected). Spell xs (drop k ts)) (append_assoc es fs b.others) b.spell;
}

pub begins-within : {ts : List Token} {k : ℕ} (es : List Expected) → BeginsAt ts k es → 0 < length es → k + length es ≤ length ts
begins-within {ts} {k} es b some =
    let (us, vs, same, front, back) = spell-part es b.others (drop k ts) b.spell in
    let n = spell-length es us front in
    omega (arith, length-drop k ts, ap length same, length-append us vs, n)

-- no names begin where no name stands
pub names-none : {ts : List Token} {k : ℕ} (names : List (List ℕ)) → NamesAt ts k names → ¬ IsNameAt ts k → names ≡ []
names-none [] n not = refl
names-none (w ∷ ws) n not =
    let s = stands-first (a_word w) (map a_word ws ++ a_symbol n.behind ∷ []) n.they in
    absurd (not (record { token = s.token; at = s.at; named = s.is.0 }))

-- where a name stands it is the first, and the others begin after it
pub names-more : {ts : List Token} {k : ℕ} (names : List (List ℕ)) → NamesAt ts k names → (n : IsNameAt ts k)
    → (ws : List (List ℕ)) × (names ≡ n.token.piece ∷ ws) × NamesAt ts (k + 1) ws
names-more [] ns n =
    let s = stands-first (a_symbol ns.behind) [] ns.they in
    let same : s.token ≡ n.token = let h = s.at in let g = n.at in cc in
    absurd (let h = s.is.0 in let g : s.token.kind ≡ name = ap (λ (u : Token). u.kind) same ∙ n.named in cc)
names-more (w ∷ ws) ns n =
    let s = stands-first (a_word w) (map a_word ws ++ a_symbol ns.behind ∷ []) ns.they in
    let same : s.token ≡ n.token = let h = s.at in let g = n.at in cc in
    let piece : n.token.piece ≡ w = sym (ap (λ (u : Token). u.piece) same) ∙ s.is.1 in (
      ws,
      ap (λ (x : List ℕ). x ∷ ws) (sym piece),
      record { behind = ns.behind; they = begins-behind (a_word w ∷ []) (map a_word ws ++ a_symbol ns.behind ∷ []) ns.they },
    )

-- the place of the word that stands there
pub place-stands : {ts : List Token} {k : ℕ} {w : List ℕ} (here there : Place) (t : Token) → slice_get ts k ≡ Some t
    → here.offset ≡ t.at → StandsAt ts k (word_at w there) → here ≡ there
place-stands here there t at is s =
    let same : s.token ≡ t = let h = s.at in cc in
    let offset : here.offset ≡ there.offset = is ∙ sym (ap (λ (u : Token). u.at) same) ∙ s.is.2 in
    λ i. record { offset = offset i }
