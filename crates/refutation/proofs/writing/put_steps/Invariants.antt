-- The first lines were put.
use Rattle.std.{proofs.Common.{take}, specs.List.{flat_map}}
use Rattle.pc_common.specs.{Writes.{success}, Room.{Puts}}
use Rattle.refutation.specs.Steps.{step_text}
use Rattle.refutation.proofs.writing.put_steps.Given as goal

abbrev pub invariant-loop-k : goal.invariant-loop-k
invariant-loop-k g l =
    Puts g.K.Sink.view l.initial.room l.room success (flat_map (step_text l.names) (take l.k l.refutation))
