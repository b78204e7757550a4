-- A count that rose in one of two calls rose over both.
use Rattle.std.proofs.Common.{◌≤◌, ℕ, arith}
use Rattle.pc_common.specs.Faults.{Rose}

-- it did not fall in the first call, and rose in the second
pub rose_after : (a b c : ℕ) → a ≤ b → Rose b c → Rose a c
rose_after a b c first rose = λ below. omega (arith, rose below)
