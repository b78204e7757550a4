use Rattle.std.proofs.Common.{arith, ◌-◌}
use Rattle.pc_case.proofs.{Cores.{cores_step}, case.core_count.Goals.{then-cores-core, else-cores-core}}
use Rattle.pc_case.proofs.case.core_count.Goals as goal

pub loop-k-preserved : goal.loop-k-preserved
loop-k-preserved c =
    cores_step c.args.ops.now (c.len.result - 1 - c.loop-k.k) _ _ c.get.result.now c.loop-k.cores _ c.get.ensures
    (omega arith) (omega arith) c.loop-k.invariant
    (elim c.if-cores-core.branch [ then-cores-core w ↦ omega arith | else-cores-core w ↦ omega arith ])
