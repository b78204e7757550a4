-- The first `at` bytes of the piece went out.
use Rattle.std.proofs.Common.{length, take, ◌-◌, ◌≡◌, ◌≤◌, ◌++◌, IsTrue}
use Rattle.pc_common.proofs.writing.send.Given as goal

abbrev pub invariant-loop-at : goal.invariant-loop-at
invariant-loop-at g l = record {
  within : l.at ≤ length l.piece;
  same_modelled : (g.K.Sink.view l.sink).modelled ≡ (g.K.Sink.view l.initial.sink).modelled;
  count : (g.K.Sink.view l.initial.sink).faults ≤ (g.K.Sink.view l.sink).faults;
  bytes : IsTrue (g.K.Sink.view l.initial.sink).modelled →
      (g.K.Sink.view l.sink).taken ≡ (g.K.Sink.view l.initial.sink).taken ++ take l.at l.piece;
}

abbrev pub decreases-loop-at : goal.decreases-loop-at
decreases-loop-at g l = length l.piece - l.at
