-- Marks as counts: one more, and the first ones.
use Rattle.std.proofs.Common.{◌≡◌, ℕ, zero, suc, ◌+◌, ◌-◌, ◌<◌, ◌≤◌, List, [], ◌∷◌, ◌++◌, length, take, get_or, set, sum, replicate, refl, sym, ◌∙◌, ap, subst, arith, append_assoc, append-nil}
use Rattle.std.proofs.lemmas.List.{replicate_more, length-append, length-replicate, take-append-le, take-replicate, get_or_append_left, get_or-append_right, get_or-replicate}
use Rattle.std.proofs.lemmas.List.Sums.{sum_by-cons, sum_by_push}
use Rattle.order_graph.specs.Marks.{marks_from}

sum-cons : (c : ℕ) (cs : List ℕ) → sum (c ∷ cs) ≡ c + sum cs
sum-cons c cs = sum_by-cons (λ x. x) c cs

pub length-marks : (k : ℕ) (cs : List ℕ) → length (marks_from k cs) ≡ sum cs
length-marks k [] = refl
length-marks k (c ∷ cs) =
    length-append (replicate c k) (marks_from (k + 1) cs) ∙ ap (λ n. n + length (marks_from (k + 1) cs)) (length-replicate c k)
    ∙ ap (λ n. c + n) (length-marks (k + 1) cs) ∙ sym (sum-cons c cs)

-- no mark at one number of literals more
pub marks_none : (k : ℕ) (cs : List ℕ) → marks_from k (cs ++ 0 ∷ []) ≡ marks_from k cs
marks_none k [] = refl
marks_none k (c ∷ cs) = ap (λ ms. replicate c k ++ ms) (marks_none (k + 1) cs)

-- one mark more at the last number of literals
pub marks_more : (k c : ℕ) (cs : List ℕ)
    → marks_from k (set (c ∷ cs) (length cs) (get_or (c ∷ cs) (length cs) 0 + 1)) ≡ marks_from k (c ∷ cs) ++ (k + length cs) ∷ []
marks_more k c [] = ap (λ ms. ms ++ []) (sym (replicate_more c k)) ∙ again
  where
    again : (replicate c k ++ k ∷ []) ++ [] ≡ (replicate c k ++ []) ++ (k + 0) ∷ []
    again = append-nil (replicate c k ++ k ∷ []) ∙ ap (λ ms. ms ++ k ∷ []) (sym (append-nil (replicate c k)))
        ∙ ap (λ n. (replicate c k ++ []) ++ n ∷ []) (let e : k ≡ k + 0 = omega arith in e)
marks_more k c (d ∷ ds) =
    ap (λ ms. replicate c k ++ ms) (marks_more (k + 1) d ds) ∙ sym (append_assoc (replicate c k) (marks_from (k + 1) (d ∷ ds)) ((k + 1 + length ds) ∷ []))
    ∙ ap (λ n. (replicate c k ++ marks_from (k + 1) (d ∷ ds)) ++ n ∷ []) (let e : k + 1 + length ds ≡ k + suc (length ds) = omega arith in e)

take_over : {X : Type 0} (xs ys : List X) (n : ℕ) → take (length xs + n) (xs ++ ys) ≡ xs ++ take n ys
take_over [] ys n = ap (λ m. take m ys) (let e : 0 + n ≡ n = omega arith in e)
take_over (x ∷ xs) ys n = ap (λ m. take m (x ∷ (xs ++ ys))) (let e : suc (length xs) + n ≡ suc (length xs + n) = omega arith in
    e) ∙ ap (λ zs. x ∷ zs) (take_over xs ys n)

-- the first marks, the last r of them at j literals
pub marks_cut : (k : ℕ) (cs : List ℕ) (j r : ℕ) → j < length cs → r ≤ get_or cs j 0
    → marks_from k (take j cs ++ r ∷ []) ≡ take (sum (take j cs) + r) (marks_from k cs)
marks_cut k [] j r h low = absurd (omega arith)
marks_cut k (c ∷ cs) zero r h low =
    append-nil (replicate r k) ∙ sym (take-replicate r c k low)
    ∙ sym (take-append-le r (replicate c k) (marks_from (k + 1) cs) (let l = length-replicate c k in omega arith))
    ∙ ap (λ n. take n (replicate c k ++ marks_from (k + 1) cs)) (let e : r ≡ 0 + r = omega arith in e)
marks_cut k (c ∷ cs) (suc j) r h low =
    ap (λ ms. replicate c k ++ ms) (marks_cut (k + 1) cs j r (omega arith) low)
    ∙ sym (take_over (replicate c k) (marks_from (k + 1) cs) (sum (take j cs) + r))
    ∙ ap (λ n. take n (replicate c k ++ marks_from (k + 1) cs)) (let l = length-replicate c k in let f = sum-cons c (take j cs) in
    let e : length (replicate c k) + (sum (take j cs) + r) ≡ sum (c ∷ take j cs) + r = omega arith in e)

-- a mark at j literals
pub mark_at : (k : ℕ) (cs : List ℕ) (j i : ℕ) → j < length cs → i < get_or cs j 0 → get_or (marks_from k cs) (sum (take j cs) + i) 0 ≡ k + j
mark_at k [] j i h low = absurd (omega arith)
mark_at k (c ∷ cs) zero i h low =
    let l = length-replicate c k in
    ap (λ n. get_or (replicate c k ++ marks_from (k + 1) cs) n 0) (let e : 0 + i ≡ i = omega arith in e)
    ∙ get_or_append_left (replicate c k) (marks_from (k + 1) cs) 0 i (omega arith) ∙ get_or-replicate c i k 0 low ∙ (let e : k ≡ k + 0 = omega arith in e)
mark_at k (c ∷ cs) (suc j) i h low =
    let l = length-replicate c k in
    let f = sum-cons c (take j cs) in
    get_or-append_right (replicate c k) (marks_from (k + 1) cs) c (sum (c ∷ take j cs) + i) 0 l (omega arith)
    ∙ ap (λ n. get_or (marks_from (k + 1) cs) n 0) (let e : (sum (c ∷ take j cs) + i) - c ≡ sum (take j cs) + i = omega arith in e)
    ∙ mark_at (k + 1) cs j i (omega arith) low ∙ (let e : k + 1 + j ≡ k + suc j = omega arith in e)

-- a mark more at the last of n + 1 counts
pub marks_last : (cs : List ℕ) (n : ℕ) → length cs ≡ n + 1 → marks_from 0 (set cs n (get_or cs n 0 + 1)) ≡ marks_from 0 cs ++ n ∷ []
marks_last [] n h = absurd (omega arith)
marks_last (c ∷ ds) n h =
    let e : length ds ≡ n = omega arith in
    let P : ℕ → Type 0 = λ m. marks_from 0 (set (c ∷ ds) m (get_or (c ∷ ds) m 0 + 1)) ≡ marks_from 0 (c ∷ ds) ++ m ∷ [] in
    subst P e (marks_more 0 c ds ∙ ap (λ m. marks_from 0 (c ∷ ds) ++ m ∷ []) (let f : 0 + length ds ≡ length ds = omega arith in f))

-- what the counts are cut to at the mark m, the r-th at k literals
pub record IsCutAt (cs : List ℕ) (k r m : ℕ) : Type 0 where
  pub marks : marks_from 0 (take k cs ++ r ∷ []) ≡ take (m + 1) (marks_from 0 cs)
  pub at : get_or (marks_from 0 cs) m 0 ≡ k
  pub many : length (marks_from 0 (take k cs ++ r ∷ [])) ≡ m + 1

pub cut_at : (cs : List ℕ) (k r m : ℕ) → k < length cs → sum (take k cs) + r ≡ m + 1 → 0 < r → r ≤ get_or cs k 0 → IsCutAt cs k r m
cut_at cs k r m inside place low high =
    let before : m ≡ sum (take k cs) + (r - 1) = omega arith in
    let all = length-marks 0 (take k cs ++ r ∷ []) in
    let more = sum_by_push (λ x. x) (take k cs) r in
    record {
      marks = marks_cut 0 cs k r inside high ∙ ap (λ n. take n (marks_from 0 cs)) place;
      at = ap (λ n. get_or (marks_from 0 cs) n 0) before ∙ mark_at 0 cs k (r - 1) inside (omega arith) ∙ (let e : 0 + k ≡ k = omega arith in e);
      many = all ∙ more ∙ place;
    }
