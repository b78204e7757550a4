use Rattle.pc_case.proofs.case.Case.copy.Goals as goal

pub invariant_of-result : goal.invariant_of-result
invariant_of-result c = (
  rw c.in_ok-ops.ensures c.self.invariant.0,
  rw c.in_ok-ops.ensures c.self.invariant.1,
  rw (c.in_ok-ops.ensures, c.in_ok-dependencies.ensures) c.self.invariant.2,
  rw c.in_ok-initial.ensures c.self.invariant.3,
  rw c.in_ok-final_values.ensures c.self.invariant.4,
)
