-- The text of a line by its pieces, and the lines of one core more.
use Rattle.std.proofs.{Common.{arith, ◌≡◌, ℕ, zero, suc, ◌+◌, List, ◌++◌, Result, OnOk, sym, ◌∙◌, ap, append_assoc}, lemmas.List.{append-nil}}
use Rattle.std.specs.{Prelude.{codes}, Fmt.{decimal}, List.{flat_map, range_with_len}}
use Rattle.gen_command.specs.Ring.{op_line, core_lines}

grouped : (a b c d e f g h i j k : List ℕ)
    → a ++ (b ++ (c ++ (d ++ (e ++ (f ++ (g ++ (h ++ (i ++ (j ++ k))))))))) ≡ a ++ b ++ c ++ d ++ e ++ f ++ g ++ h ++ i ++ j ++ k
grouped a b c d e f g h i j k = simp append_assoc

-- what put an op's pieces put its line
pub op_put : {T E : Type 0} (r : Result T E) (new old number place written : List ℕ) (g core : ℕ) (access : List ℕ) (value : ℕ)
    → number ≡ decimal g → place ≡ decimal core → written ≡ decimal value
    → OnOk r (new ≡ old ++ (codes "Microop " ++ (number ++ (codes " " ++ (place ++ (codes " " ++ (place ++ (codes " 0 ("
    ++ (access ++ (codes " (VA 0 0) (PA 0 0) (Data " ++ (written ++ codes ")).\n")))))))))))
    → OnOk r (new ≡ old ++ op_line g core access value)
op_put r new old number place written g core access value p q d h =
    rw (← grouped (codes "Microop ") (decimal g) (codes " ") (decimal core) (codes " ") (decimal core) (codes " 0 (") access
    (codes " (VA 0 0) (PA 0 0) (Data ") (decimal value) (codes ")).\n")) (rw p at rw q at rw d at h)

last : (n a k j : ℕ) → a + k ≡ j → flat_map (core_lines n) (range_with_len a (suc k)) ≡ flat_map (core_lines n) (range_with_len a k) ++ core_lines n j
last n a zero j e = let same : a ≡ j = omega arith in append-nil (core_lines n a) ∙ ap (core_lines n) same
last n a (suc k) j e =
    ap (λ text. core_lines n a ++ text) (last n (a + 1) k j (omega arith))
    ∙ sym (append_assoc (core_lines n a) (flat_map (core_lines n) (range_with_len (a + 1) k)) (core_lines n j))

core_more : (n k : ℕ) → flat_map (core_lines n) (range_with_len 0 (k + 1)) ≡ flat_map (core_lines n) (range_with_len 0 k) ++ core_lines n k
core_more n k =
    let on : k + 1 ≡ suc k = omega arith in
    let at : 0 + k ≡ k = omega arith in
    ap (λ m. flat_map (core_lines n) (range_with_len 0 m)) on ∙ last n 0 k k at

-- the lines of one core more were put
pub ring_more : (head old new : List ℕ) (n k : ℕ) → old ≡ head ++ flat_map (core_lines n) (range_with_len 0 k) → new ≡ old ++ core_lines n k
    → new ≡ head ++ flat_map (core_lines n) (range_with_len 0 (k + 1))
ring_more head old new n k before put =
    put ∙ ap (λ text. text ++ core_lines n k) before
    ∙ append_assoc head (flat_map (core_lines n) (range_with_len 0 k)) (core_lines n k)
    ∙ ap (λ text. head ++ text) (sym (core_more n k))

-- the lines of all cores were put, and the last line
pub ring_end : (head foot old new : List ℕ) (n k : ℕ) → old ≡ head ++ flat_map (core_lines n) (range_with_len 0 k) → k ≡ n → new ≡ old ++ foot
    → new ≡ head ++ flat_map (core_lines n) (range_with_len 0 n) ++ foot
ring_end head foot old new n k before all put =
    put ∙ ap (λ text. text ++ foot) before ∙ ap (λ m. head ++ flat_map (core_lines n) (range_with_len 0 m) ++ foot) all
