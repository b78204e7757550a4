-- The certificates of the first graphs were written.
use Rattle.std.{proofs.Common.{map, take}, specs.List.{flat_map}}
use Rattle.pc_common.specs.Writes.{Writes, success}
use Rattle.core_command.specs.{CoreTexts.{pairs, without_text}, Found.{graph_text}}
use Rattle.core_command.proofs.report.write_graphs.Given as goal

abbrev pub invariant-loop-k : goal.invariant-loop-k
invariant-loop-k g l =
    Writes g.K.Sink.view l.initial.out l.out success (flat_map without_text (take l.k (pairs l.kept (map graph_text l.without))))
