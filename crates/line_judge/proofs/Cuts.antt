-- A text has one way of being cut into lines.
use Rattle.std.proofs.Common.{◌≡◌, ◌≤◌, ◌+◌, ℕ, suc, List, [], ◌∷◌, ◌++◌, length, get_or, refl, sym, ◌∙◌, ap, arith, append_assoc, length-append}
use Rattle.std.{proofs.lemmas.{List.{get_or_at, Elements.{All-head, All-tail}}, Grind.{flat_map-append}}, specs.List.{All}}
use Rattle.line_judge.specs.Texts.{IsLine, text_of_lines}

-- the line, its LF and all that follows
pub text_cons : (line : List ℕ) (lines : List (List ℕ)) (rest : List ℕ) → text_of_lines (line ∷ lines) ++ rest ≡ line ++ 10 ∷ (text_of_lines lines ++ rest)
text_cons line lines rest =
    append_assoc (line ++ 10 ∷ []) (text_of_lines lines) rest ∙ append_assoc line (10 ∷ []) (text_of_lines lines ++ rest)

pub text_append : (lines more : List (List ℕ)) (rest : List ℕ) → text_of_lines (lines ++ more) ++ rest ≡ text_of_lines lines ++ (text_of_lines more ++ rest)
text_append lines more rest =
    ap (λ text. text ++ rest) (flat_map-append (λ line. line ++ 10 ∷ []) lines more) ∙ append_assoc (text_of_lines lines) (text_of_lines more) rest

-- equal texts have equal first lines
pub same_first : (l m xs ys : List ℕ) → IsLine l → IsLine m → l ++ 10 ∷ xs ≡ m ++ 10 ∷ ys → (l ≡ m) × (xs ≡ ys)
same_first [] [] xs ys a b e = (refl, cc)
same_first [] (c ∷ m) xs ys a b e = let h : c ≡ 10 = cc in absurd (b 0 c (omega arith) h)
same_first (c ∷ l) [] xs ys a b e = let h : c ≡ 10 = cc in absurd (a 0 c (omega arith) h)
same_first (c ∷ l) (d ∷ m) xs ys a b e =
    let first : c ≡ d = cc in
    let rest : l ++ 10 ∷ xs ≡ m ++ 10 ∷ ys = cc in
    let same = same_first l m xs ys (All-tail (λ byte. byte ≡ 10 → ⊥) c l a) (All-tail (λ byte. byte ≡ 10 → ⊥) d m b) rest in
    (ap (λ x. x ∷ l) first ∙ ap (λ zs. d ∷ zs) same.0, same.1)

-- of two cuts of one text the longer begins with the shorter
pub first_lines : (ls ms : List (List ℕ)) (r s : List ℕ) → All IsLine ls → All IsLine ms → length ms ≤ length ls
    → text_of_lines ls ++ r ≡ text_of_lines ms ++ s → (more : List (List ℕ)) × (ls ≡ ms ++ more)
first_lines ls [] r s a b fewer e = (ls, refl)
first_lines [] (m ∷ ms) r s a b fewer e = absurd (omega arith)
first_lines (l ∷ ls) (m ∷ ms) r s a b fewer e =
    let same = same_first l m (text_of_lines ls ++ r) (text_of_lines ms ++ s) (All-head IsLine l ls a) (All-head IsLine m ms b)
    (sym (text_cons l ls r) ∙ e ∙ text_cons m ms s) in
    let rest = first_lines ls ms r s (All-tail IsLine l ls a) (All-tail IsLine m ms b) (omega arith) same.1 in
    (rest.0, ap (λ x. x ∷ ls) same.0 ∙ ap (λ zs. m ∷ zs) rest.1)

-- a cut up to the last LF has all lines
pub fewer_lines : (ls ms : List (List ℕ)) (r s : List ℕ) → All IsLine ls → All IsLine ms → IsLine r
    → text_of_lines ls ++ r ≡ text_of_lines ms ++ s → length ms ≤ length ls
fewer_lines ls [] r s a b open_line e = omega arith
fewer_lines [] (m ∷ ms) r s a b open_line e =
    let is : r ≡ m ++ 10 ∷ (text_of_lines ms ++ s) = e ∙ text_cons m ms s in
    let long : length r ≡ length m + suc (length (text_of_lines ms ++ s)) = ap length is ∙ length-append m (10 ∷ (text_of_lines ms ++ s)) in
    absurd (open_line (length m) 0 (omega arith)
    (ap (λ xs. get_or xs (length m) 0) is ∙ get_or_at m 10 (text_of_lines ms ++ s) 0 (length m) refl))
fewer_lines (l ∷ ls) (m ∷ ms) r s a b open_line e =
    let same = same_first l m (text_of_lines ls ++ r) (text_of_lines ms ++ s) (All-head IsLine l ls a) (All-head IsLine m ms b)
    (sym (text_cons l ls r) ∙ e ∙ text_cons m ms s) in
    let rest = fewer_lines ls ms r s (All-tail IsLine l ls a) (All-tail IsLine m ms b) open_line same.1 in
    omega arith

-- there are no more lines than bytes
pub lines_within : (lines : List (List ℕ)) (rest : List ℕ) → length lines ≤ length (text_of_lines lines ++ rest)
lines_within [] rest = omega arith
lines_within (l ∷ ls) rest =
    let below = lines_within ls rest in
    let long = ap length (text_cons l ls rest) in
    let split = length-append l (10 ∷ (text_of_lines ls ++ rest)) in
    omega arith
