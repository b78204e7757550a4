use Rattle.refutation.proofs.writing.put_step.Goals as goal

pub put_line-requires : goal.put_line-requires
put_line-requires g c = rw c.as_slice.ensures.value (rw c.in-Cycle.is at c.requires)

pub put_line-requires-in-Path : goal.put_line-requires-in-Path
put_line-requires-in-Path g c = rw c.as_slice-in-Path.ensures.value (rw c.in-Path.is at c.requires)
