-- Lists with a last element.
use Rattle.std.proofs.Common.{◌≡◌, ◌⊎◌, inl, inr, List, [], ◌∷◌, ◌++◌, map, refl, sym, ◌∙◌, ap}

-- two lists with a last element are one where the first parts are one and the last elements are
pub snoc_same : {X : Type 0} (xs ys : List X) (x y : X) → xs ++ x ∷ [] ≡ ys ++ y ∷ [] → (xs ≡ ys) × (x ≡ y)
snoc_same [] [] x y e = (refl, cc)
snoc_same [] (b ∷ []) x y e = cc
snoc_same [] (b ∷ c ∷ ys) x y e = cc
snoc_same (a ∷ []) [] x y e = cc
snoc_same (a ∷ c ∷ xs) [] x y e = cc
snoc_same {X} (a ∷ xs) (b ∷ ys) x y e =
    let heads : a ≡ b = cc in
    let tails : xs ++ x ∷ [] ≡ ys ++ y ∷ [] = cc in
    let r = snoc_same xs ys x y tails in
    (ap (λ (h : X). h ∷ xs) heads ∙ ap (λ (t : List X). b ∷ t) r.0, r.1)

-- no list with a last element is empty
pub snoc_some : {X : Type 0} (xs : List X) (x : X) → xs ++ x ∷ [] ≡ [] → ⊥
snoc_some [] x e = cc
snoc_some (y ∷ xs) x e = cc

-- the last element of two lists put together is that of the second, or of the first where the second is empty
pub last_of : {X : Type 0} (xs ys zs : List X) (z : X) → xs ++ ys ≡ zs ++ z ∷ []
    → ((ys ≡ []) × (xs ≡ zs ++ z ∷ [])) ⊎ ((us : List X) × (ys ≡ us ++ z ∷ []) × (zs ≡ xs ++ us))
last_of [] ys zs z e = inr (zs, e, refl)
last_of (x ∷ []) [] [] z e = inl (refl, e)
last_of (x ∷ []) (y ∷ ys) [] z e = cc
last_of (x ∷ w ∷ xs) ys [] z e = cc
last_of {X} (x ∷ xs) ys (w ∷ zs) z e =
    let heads : x ≡ w = cc in
    let tails : xs ++ ys ≡ zs ++ z ∷ [] = cc in
    elim (last_of xs ys zs z tails) [
      | inl r ↦ inl (r.0, ap (λ (h : X). h ∷ xs) heads ∙ ap (λ (t : List X). w ∷ t) r.1)
      | inr r ↦ inr (r.0, r.1, ap (λ (h : X). h ∷ zs) (sym heads) ∙ ap (λ (t : List X). x ∷ t) r.2)
    ]

-- the last element of a map is that of the last
pub last_map : {X Y : Type 0} (f : X → Y) (xs : List X) (ys : List Y) (y : Y) → map f xs ≡ ys ++ y ∷ []
    → (zs : List X) × (z : X) × (xs ≡ zs ++ z ∷ []) × (map f zs ≡ ys) × (f z ≡ y)
last_map f [] [] y e = cc
last_map f [] (w ∷ ys) y e = cc
last_map f (x ∷ []) [] y e = ([], x, refl, refl, cc)
last_map f (x ∷ v ∷ xs) [] y e = cc
last_map {X} {Y} f (x ∷ xs) (w ∷ ys) y e =
    let heads : f x ≡ w = cc in
    let tails : map f xs ≡ ys ++ y ∷ [] = cc in
    let r = last_map f xs ys y tails in
    (x ∷ r.0, r.1, ap (λ (t : List X). x ∷ t) r.2, ap (λ (h : Y). h ∷ map f r.0) heads ∙ ap (λ (t : List Y). w ∷ t) r.3, r.4)

-- a map that tells elements apart tells lists apart
pub map_same : {X Y : Type 0} (f : X → Y) → ((a b : X) → f a ≡ f b → a ≡ b) → (xs ys : List X) → map f xs ≡ map f ys → xs ≡ ys
map_same f one [] [] e = refl
map_same f one [] (y ∷ ys) e = cc
map_same f one (x ∷ xs) [] e = cc
map_same {X} f one (x ∷ xs) (y ∷ ys) e =
    let heads : f x ≡ f y = cc in
    let tails : map f xs ≡ map f ys = cc in
    ap (λ (h : X). h ∷ xs) (one x y heads) ∙ ap (λ (t : List X). y ∷ t) (map_same f one xs ys tails)

-- a map with a last element is that of the first part and the last element's
pub map_snoc : {X Y : Type 0} (f : X → Y) (xs : List X) (x : X) → map f xs ++ f x ∷ [] ≡ map f (xs ++ x ∷ [])
map_snoc f [] x = refl
map_snoc {X} {Y} f (y ∷ xs) x = ap (λ (t : List Y). f y ∷ t) (map_snoc f xs x)
