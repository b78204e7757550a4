-- The stages up to here have other names.
use Rattle.std.proofs.Common.{◌≡◌, drop}
use Rattle.pc_syntax.specs.Stages.{stage_number_of}
use Rattle.scope_check.proofs.nodes.number_named.Given as goal

abbrev pub invariant-loop-stage : goal.invariant-loop-stage
invariant-loop-stage l = stage_number_of l.stages l.name ≡ stage_number_of (drop l.stage-index l.stages) l.name
