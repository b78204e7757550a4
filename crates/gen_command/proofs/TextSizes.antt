-- The two texts of a ring are short.
use Rattle.std.proofs.{Common.{◌≡◌, ℕ, zero, suc, ◌<◌, ◌≤◌, ◌+◌, ◌*◌, ◌%◌, List, ◌++◌, length, arith}, lemmas.List.{length-append}}
use Rattle.std.{proofs.{lemmas.Fmt.{length-decimal-le_succ}, Math.Nat.{mod-le}}, specs.{Prelude.{codes}, Fmt.{decimal}, List.{flat_map, range_with_len}}}
use Rattle.pc_front.specs.declared.limits.TheConstants.{MAX_FILE}
use Rattle.gen_command.specs.Ring.{op_line, core_lines, ring_test}

lengths : (a b c d e f g h i j k : List ℕ)
    → length (a ++ b ++ c ++ d ++ e ++ f ++ g ++ h ++ i ++ j ++ k)
    ≡ length a + length b + length c + length d + length e + length f + length g + length h + length i + length j + length k
lengths a b c d e f g h i j k = simp length-append

op_short : (g core : ℕ) (access : List ℕ) (value : ℕ) → g < 64 → core < 64 → value < 64 → length access ≤ 5
    → length (op_line g core access value) ≤ 400
op_short g core access value few_g few_core few_value short =
    let all : length (op_line g core access value)
    ≡ 8 + length (decimal g) + 1 + length (decimal core) + 1 + length (decimal core) + 4 + length access + 25 + length (decimal value) + 4 =
    lengths (codes "Microop ") (decimal g) (codes " ") (decimal core) (codes " ") (decimal core) (codes " 0 (") access
    (codes " (VA 0 0) (PA 0 0) (Data ") (decimal value) (codes ")).\n") in
    let a = length-decimal-le_succ g (omega arith) in
    let b = length-decimal-le_succ core (omega arith) in
    let d = length-decimal-le_succ value (omega arith) in
    omega (arith, all, a, b, d, short)

core_short : (n c : ℕ) → c < 16 → length (core_lines n c) ≤ 800
core_short n c few =
    let next = mod-le (c + 1) n in
    let write = op_short (2 * c) c (codes "Write") (c + 1) (omega arith) (omega arith) (omega arith) (omega arith) in
    let read = op_short (2 * c + 1) c (codes "Read") ((c + 1) % n + 1) (omega arith) (omega arith) (omega (arith, next)) (omega arith) in
    let both = length-append (op_line (2 * c) c (codes "Write") (c + 1)) (op_line (2 * c + 1) c (codes "Read") ((c + 1) % n + 1)) in
    omega (arith, write, read, both)

cores_short : (n a k : ℕ) → a + k ≤ 16 → length (flat_map (core_lines n) (range_with_len a k)) ≤ 800 * k
cores_short n a zero few = omega arith
cores_short n a (suc k) few =
    let first = core_short n a (omega arith) in
    let rest = cores_short n (a + 1) k (omega arith) in
    let both = length-append (core_lines n a) (flat_map (core_lines n) (range_with_len (a + 1) k)) in
    omega (arith, first, rest, both)

three_parts : (a b c : List ℕ) → length (a ++ b ++ c) ≡ length a + length b + length c
three_parts a b c = simp length-append

pub ring_short : (n : ℕ) → n ≤ 16 → length (ring_test n) ≤ MAX_FILE
ring_short n few =
    let all : length (ring_test n) ≡ 15 + length (flat_map (core_lines n) (range_with_len 0 n)) + 11 =
    three_parts (codes "Litmus \"ring\".\n") (flat_map (core_lines n) (range_with_len 0 n)) (codes "Forbidden.\n") in
    let cores = cores_short n 0 n (omega arith) in
    omega (arith, all, cores)
