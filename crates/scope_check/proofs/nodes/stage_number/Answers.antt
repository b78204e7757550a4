use Rattle.std.proofs.Common.{◌<◌, sym, arith}
use Rattle.pc_syntax.proofs.ClosingShape.{no_stage_fault-below}
use Rattle.scope_check.proofs.nodes.stage_number.Goals as goal

pub overflow_cast-result : goal.overflow_cast-result
overflow_cast-result c =
    let named = rw (c.as_slice.ensures.value, c.as_slice-2.ensures.value) at c.in-Some.ensures in
    let below : c.in-Some.number < 64 = no_stage_fault-below c.args.stages.now c.requires c.args.word.now.name c.in-Some.number (sym named) in
    omega arith
