-- The line at a place, and those after it.
use Rattle.std.proofs.Common.{◌≡◌, ℕ, zero, suc, ◌+◌, ◌<◌, ◌≤◌, Bool, true, false, not, List, [], ◌∷◌, length, take, drop, if◌then◌else◌, refl, sym, ap, ◌∙◌, arith, ⊎_elim, nat_lt}
use Rattle.std.{proofs.{str.Laws.{order}, lemmas.{Bool.{lt-ltb, le-ltb}, List.{drop-drop, length-drop}}}, specs.List.{prefix_len, onto_first}}
use Rattle.x86_litmus.specs.{Header.{is_line_end, lines}, Lines.{lines_from}}

-- the lines after this many bytes
abbrev rest : ℕ → List ℕ → List (List ℕ)
rest n xs = if nat_lt (length xs) n then [] else lines (drop n xs)

shift : (a b : ℕ) → nat_lt (suc a) (suc b) ≡ nat_lt a b
shift a b =
    ⊎_elim
    (λ lt. lt-ltb (suc a) (suc b) (omega arith) ∙ sym (lt-ltb a b lt))
    (λ le. le-ltb (suc a) (suc b) (omega arith) ∙ sym (le-ltb a b le))
    (order a b)

-- the first line is what stands before an LF
first_line : (xs : List ℕ) (n : ℕ) → n ≡ prefix_len (λ c. not (is_line_end c)) xs → lines xs ≡ take n xs ∷ rest (n + 1) xs
first_line [] zero e = refl
first_line [] (suc n) e = absurd (omega arith)
first_line (x ∷ xs) n e = by (λ m h. first_line xs m h) (is_line_end x) n e
  where
    by : ((m : ℕ) → m ≡ prefix_len (λ c. not (is_line_end c)) xs → lines xs ≡ take m xs ∷ rest (m + 1) xs) → (b : Bool) → (n : ℕ)
        → n ≡ (if not b then 1 + prefix_len (λ c. not (is_line_end c)) xs else 0)
        → (if b then [] ∷ lines xs else onto_first x (lines xs)) ≡ take n (x ∷ xs) ∷ rest (n + 1) (x ∷ xs)
    by later true zero e = ap (λ b. [] ∷ (if b then [] else lines xs)) (sym (le-ltb (length (x ∷ xs)) 1 (omega arith)))
    by later true (suc n) e = absurd (omega arith)
    by later false zero e = absurd (omega arith)
    by later false (suc n) e =
        let more : n + 1 ≡ suc n = omega arith in
        let more' : suc n + 1 ≡ suc (suc n) = omega arith in
        ap (onto_first x) (later n (omega arith))
        ∙ ap (λ k. (x ∷ take n xs) ∷ rest k xs) more
        ∙ ap (λ b. (x ∷ take n xs) ∷ (if b then [] else lines (drop (suc n) xs))) (sym (shift (length xs) (suc n)))
        ∙ ap (λ k. (x ∷ take n xs) ∷ rest k (x ∷ xs)) (sym more')

same_rest : (bytes : List ℕ) (at n : ℕ) → at ≤ length bytes → rest n (drop at bytes) ≡ lines_from bytes (at + n)
same_rest bytes at n within =
    ⊎_elim
    (λ over.
    ap (λ b. if b then [] else lines (drop n (drop at bytes))) (lt-ltb (length (drop at bytes)) n (omega (arith, length-drop at bytes)))
    ∙ sym (ap (λ b. if b then [] else lines (drop (at + n) bytes)) (lt-ltb (length bytes) (at + n) over)))
    (λ under.
    ap (λ b. if b then [] else lines (drop n (drop at bytes))) (le-ltb (length (drop at bytes)) n (omega (arith, length-drop at bytes)))
    ∙ ap lines (drop-drop n at bytes)
    ∙ sym (ap (λ b. if b then [] else lines (drop (at + n) bytes)) (le-ltb (length bytes) (at + n) under)))
    (order (length bytes) (at + n))

-- the line at a place, of this many bytes
pub line_from : (bytes : List ℕ) (at n : ℕ) → at ≤ length bytes → n ≡ prefix_len (λ c. not (is_line_end c)) (drop at bytes)
    → lines_from bytes at ≡ take n (drop at bytes) ∷ lines_from bytes (at + n + 1)
line_from bytes at n within is =
    let here : at + (n + 1) ≡ at + n + 1 = omega arith in
    ap (λ b. if b then [] else lines (drop at bytes)) (le-ltb (length bytes) at within)
    ∙ first_line (drop at bytes) n is
    ∙ ap (λ ls. take n (drop at bytes) ∷ ls) (same_rest bytes at (n + 1) within ∙ ap (lines_from bytes) here)

-- after the end no line begins
pub no_lines : (bytes : List ℕ) (at : ℕ) → length bytes < at → lines_from bytes at ≡ []
no_lines bytes at over = ap (λ b. if b then [] else lines (drop at bytes)) (lt-ltb (length bytes) at over)

pub all_lines : (bytes : List ℕ) → lines_from bytes 0 ≡ lines bytes
all_lines bytes = ap (λ b. if b then [] else lines bytes) (le-ltb (length bytes) 0 (omega arith))
