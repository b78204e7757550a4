-- Bytes that are moved: from what is left of a list to the front of another, and out of a piece by parts.
use Rattle.std.proofs.Common.{◌≡◌, ◌≤◌, ◌+◌, ◌-◌, ◌++◌, ◌∙◌, sym, ap, ℕ, List, length, take, drop, arith, append_assoc}
use Rattle.std.proofs.lemmas.List.{take-append-le, take-append-drop, take-take, length-take-le, drop-drop, drop-append-le, take_all, length-drop}
use Rattle.std.proofs.Math.Seq.{take-add}

pub moved : (bytes buf written left : List ℕ) (at n : ℕ) →
    left ≡ drop at bytes → n ≤ length left → written ≡ take n left →
    left ≡ take n (written ++ drop n buf) ++ drop (at + n) bytes
moved bytes buf written left at n rest within copied =
    let front : take n (written ++ drop n buf) ≡ take n left =
    take-append-le n written (drop n buf) (omega (arith, ap length copied, length-take-le n left within))
    ∙ ap (take n) copied ∙ take-take n n left (omega arith) in
    let back : drop (at + n) bytes ≡ drop n left = sym (ap (drop n) rest ∙ drop-drop n at bytes) in
    rw (front, back) (sym (take-append-drop n left))

-- the first n of the rest of a piece, after its first ones
pub went_on : (before between after piece : List ℕ) (at n : ℕ) →
    between ≡ before ++ take at piece → after ≡ between ++ take n (take (length piece - at) (drop at piece)) →
    after ≡ before ++ take (at + n) piece
went_on before between after piece at n so_far next =
    let rest : take (length piece - at) (drop at piece) ≡ drop at piece =
    take_all (length piece - at) (drop at piece) (omega (arith, length-drop at piece)) in
    next ∙ ap (λ xs. between ++ take n xs) rest ∙ ap (λ xs. xs ++ take n (drop at piece)) so_far
    ∙ append_assoc before (take at piece) (take n (drop at piece))
    ∙ ap (λ xs. before ++ xs) (sym (take-add at n piece))

-- what goes after the used bytes goes after those of them that wait
pub went_behind : (from used n : ℕ) (old new piece : List ℕ) →
    from ≤ used → used ≤ length old → take (used + n) new ≡ take used old ++ piece →
    drop from (take (used + n) new) ≡ drop from (take used old) ++ piece
went_behind from used n old new piece order within whole =
    ap (drop from) whole ∙ drop-append-le from (take used old) piece (omega (arith, length-take-le used old within))

-- the next n bytes that were read of what is left, after those before
pub read_on : (all before left read old after items : List ℕ) (n : ℕ) →
    all ≡ before ++ left → left ≡ take n read ++ after → n ≤ length read → items ≡ before ++ take n (read ++ old) →
    all ≡ items ++ after
read_on all before left read old after items n so_far next within put =
    let behind : items ≡ before ++ take n read = put ∙ ap (λ xs. before ++ xs) (take-append-le n read old within) in
    so_far ∙ ap (λ xs. before ++ xs) next ∙ sym (append_assoc before (take n read) after) ∙ ap (λ xs. xs ++ after) (sym behind)
