use Rattle.pc_case.proofs.case.Case.new.Goals as goal

pub invariant_of-result : goal.invariant_of-result
invariant_of-result c = (
  c.requires.kept,
  c.core_count-cores.ensures,
  rw c.in_ok-from_list.ensures c.requires.within,
  rw c.in_ok-from_list-2.ensures c.requires.initial_once,
  rw c.in_ok-from_list-3.ensures c.requires.final_once,
)
