use Rattle.std.proofs.Common.{ℕ, ◌<◌}
use Rattle.pc_case.specs.MicroOps.{IsNamed}
use Rattle.pc_case.proofs.case.Case.find.Given as goal

-- no micro-op so far has the name
abbrev pub invariant-loop-k : goal.invariant-loop-k
invariant-loop-k l = (m : ℕ) → m < l.k → IsNamed l.self.ops l.id.g l.id.n m → ⊥
