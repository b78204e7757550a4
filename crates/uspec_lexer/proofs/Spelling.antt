-- Tokens that spell what is expected.
use Rattle.std.proofs.Common.{◌≡◌, ℕ, zero, suc, List, [], ◌∷◌, ◌++◌, Some, map, length, slice_get, refl, ap, subst, ◌∙◌}
use Rattle.uspec_lexer.specs.{Token.{Token}, Expected.{Expected, Is, Spell}}

-- one row of tokens after another
pub spell-append : (es fs : List Expected) (ts us : List Token) → Spell es ts → Spell fs us → Spell (es ++ fs) (ts ++ us)
spell-append [] fs [] us s r = r
spell-append [] fs (t ∷ ts) us s r = absurd s
spell-append (e ∷ es) fs [] us s r = absurd s
spell-append (e ∷ es) fs (t ∷ ts) us s r = (s.0, spell-append es fs ts us s.1 r)

-- the tokens of two rows, parted
pub spell-part : (es fs : List Expected) (ts : List Token) → Spell (es ++ fs) ts
    → (us : List Token) × (vs : List Token) × (ts ≡ us ++ vs) × Spell es us × Spell fs vs
spell-part [] fs ts s = ([], ts, refl, tt, s)
spell-part (e ∷ es) fs [] s = absurd s
spell-part (e ∷ es) fs (t ∷ ts) s =
    let (us, vs, same, here, behind) = spell-part es fs ts s.1 in
    (t ∷ us, vs, ap (λ (x : List Token). t ∷ x) same, (s.0, here), behind)

pub spell-length : (es : List Expected) (ts : List Token) → Spell es ts → length es ≡ length ts
spell-length [] [] s = refl
spell-length [] (t ∷ ts) s = absurd s
spell-length (e ∷ es) [] s = absurd s
spell-length (e ∷ es) (t ∷ ts) s = ap suc (spell-length es ts s.1)

-- the token at a place
pub spell-get : (es : List Expected) (ts : List Token) (k : ℕ) (e : Expected) → Spell es ts → slice_get es k ≡ Some e
    → (t : Token) × (slice_get ts k ≡ Some t) × Is e t
spell-get [] ts k e s at = absurd (cc)
spell-get (d ∷ es) [] k e s at = absurd s
spell-get (d ∷ es) (t ∷ ts) zero e s at =
    let same : d ≡ e = cc in (t, refl, subst (λ (x : Expected). Is x t) same s.0)
spell-get (d ∷ es) (t ∷ ts) (suc k) e s at = spell-get es ts k e s.1 at

-- a mapped list that begins so
pub map-head : {A B : Type 0} (f : A → B) (xs : List A) (c : B) (cs : List B) → map f xs ≡ c ∷ cs
    → (x : A) × (ys : List A) × (xs ≡ x ∷ ys) × (f x ≡ c) × (map f ys ≡ cs)
map-head f [] c cs e = absurd (cc)
map-head f (x ∷ xs) c cs e = (x, xs, refl, cc, cc)

-- a mapped list in two parts
pub map-part : {A B : Type 0} (f : A → B) (xs : List A) (cs ds : List B) → map f xs ≡ cs ++ ds
    → (ys : List A) × (zs : List A) × (xs ≡ ys ++ zs) × (map f ys ≡ cs) × (map f zs ≡ ds)
map-part f xs [] ds e = ([], xs, refl, refl, e)
map-part {A} {B} f xs (c ∷ cs) ds e =
    let (x, rest, at, here, behind) = map-head f xs c (cs ++ ds) e in
    let (ys, zs, parts, front, back) = map-part f rest cs ds behind in
    (x ∷ ys, zs, at ∙ ap (λ (r : List A). x ∷ r) parts, λ i. here i ∷ front i, back)
