-- The text is none of the numbers so far.
use Rattle.std.{proofs.Common.{◌≡◌, ℕ, ◌≤◌, ◌<◌}, specs.Fmt.{decimal}}
use Rattle.command_base.proofs.cores.cores.Given as goal

abbrev pub invariant-loop-n : goal.invariant-loop-n
invariant-loop-n l = (k : ℕ) → 2 ≤ k → k < l.n → l.text ≡ decimal k → ⊥
