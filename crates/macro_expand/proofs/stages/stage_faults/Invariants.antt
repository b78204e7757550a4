use Rattle.std.proofs.Common.{◌≡◌, [], take, drop}
use Rattle.pc_syntax.specs.StageFaults.{stages_fault}
use Rattle.macro_expand.proofs.stages.stage_faults.Given as goal

abbrev pub invariant-loop-k : goal.invariant-loop-k
invariant-loop-k l = stages_fault [] l.stages ≡ stages_fault (take l.k l.stages) (drop l.k l.stages)
