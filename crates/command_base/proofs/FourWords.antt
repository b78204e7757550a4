-- A list of four by its elements.
use Rattle.std.proofs.Common.{◌≡◌, ◌<◌, ◌≤◌, List, [], ◌∷◌, map, length, get_or, sym, ◌∙◌, ap, arith}

pub four : {X Y : Type 0} (f : X → Y) (xs : List X) (a b d e : X) → 4 ≤ length xs → length xs < 5
    → a ≡ get_or xs 0 a → b ≡ get_or xs 1 b → d ≡ get_or xs 2 d → e ≡ get_or xs 3 e → map f xs ≡ f a ∷ f b ∷ f d ∷ f e ∷ []
four f [] a b d e many few ea eb ed ee = absurd (omega arith)
four f (x ∷ []) a b d e many few ea eb ed ee = absurd (omega arith)
four f (x ∷ y ∷ []) a b d e many few ea eb ed ee = absurd (omega arith)
four f (x ∷ y ∷ z ∷ []) a b d e many few ea eb ed ee = absurd (omega arith)
four f (x ∷ y ∷ z ∷ v ∷ []) a b d e many few ea eb ed ee =
    ap (λ u. f u ∷ f y ∷ f z ∷ f v ∷ []) (sym ea) ∙ ap (λ u. f a ∷ f u ∷ f z ∷ f v ∷ []) (sym eb)
    ∙ ap (λ u. f a ∷ f b ∷ f u ∷ f v ∷ []) (sym ed) ∙ ap (λ u. f a ∷ f b ∷ f d ∷ f u ∷ []) (sym ee)
four f (x ∷ y ∷ z ∷ v ∷ u ∷ us) a b d e many few ea eb ed ee = absurd (omega arith)
