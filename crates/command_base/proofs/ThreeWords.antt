-- A list of two or of three by its elements.
use Rattle.std.proofs.Common.{◌≡◌, ℕ, ◌<◌, ◌≤◌, Bool, true, false, not, List, [], ◌∷◌, map, length, get_or, refl, sym, ◌∙◌, ap, arith, nat_eq}
use Rattle.std.specs.Cmp.Lexicographic.{pointwise, same_text, bytes_decides}

pub two : {X Y : Type 0} (f : X → Y) (xs : List X) (a b : X) → 2 ≤ length xs → length xs < 3
    → a ≡ get_or xs 0 a → b ≡ get_or xs 1 b → map f xs ≡ f a ∷ f b ∷ []
two f [] a b many few ea eb = absurd (omega arith)
two f (x ∷ []) a b many few ea eb = absurd (omega arith)
two f (x ∷ y ∷ []) a b many few ea eb = ap (λ e. f e ∷ f y ∷ []) (sym ea) ∙ ap (λ e. f a ∷ f e ∷ []) (sym eb)
two f (x ∷ y ∷ z ∷ zs) a b many few ea eb = absurd (omega arith)

pub three : {X Y : Type 0} (f : X → Y) (xs : List X) (a b d : X) → 3 ≤ length xs → length xs < 4
    → a ≡ get_or xs 0 a → b ≡ get_or xs 1 b → d ≡ get_or xs 2 d → map f xs ≡ f a ∷ f b ∷ f d ∷ []
three f [] a b d many few ea eb ed = absurd (omega arith)
three f (x ∷ []) a b d many few ea eb ed = absurd (omega arith)
three f (x ∷ y ∷ []) a b d many few ea eb ed = absurd (omega arith)
three f (x ∷ y ∷ z ∷ []) a b d many few ea eb ed =
    ap (λ e. f e ∷ f y ∷ f z ∷ []) (sym ea) ∙ ap (λ e. f a ∷ f e ∷ f z ∷ []) (sym eb) ∙ ap (λ e. f a ∷ f b ∷ f e ∷ []) (sym ed)
three f (x ∷ y ∷ z ∷ v ∷ vs) a b d many few ea eb ed = absurd (omega arith)

-- a test that two texts differ which says no
pub same_if_not_other : (xs ys : List ℕ) → false ≡ not (pointwise nat_eq xs ys) → xs ≡ ys
same_if_not_other xs ys e = same_text xs ys (go (pointwise nat_eq xs ys) e)
  where
    go : (b : Bool) → false ≡ not b → true ≡ b
    go true e = refl
    go false e = cc

-- and one that says yes
pub other_text : (xs ys : List ℕ) → true ≡ not (pointwise nat_eq xs ys) → xs ≡ ys → ⊥
other_text xs ys e same = go (pointwise nat_eq xs ys) e ((bytes_decides xs ys).1 same)
  where
    go : (b : Bool) → true ≡ not b → b ≡ true → ⊥
    go true e s = cc
    go false e s = cc

pub first_word : {x y : List ℕ} {xs ys : List (List ℕ)} → x ∷ xs ≡ y ∷ ys → x ≡ y
first_word e = cc
