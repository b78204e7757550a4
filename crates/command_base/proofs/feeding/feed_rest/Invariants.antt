-- The checker took what was left at first, without what is left now.
use Rattle.std.proofs.Common.{◌≡◌, ◌≤◌, ◌<◌, length, IsTrue}
use Rattle.command_base.proofs.PieceByPiece.{TookSome}
use Rattle.command_base.proofs.feeding.feed_rest.Given as goal

abbrev pub invariant-loop-left : goal.invariant-loop-left
invariant-loop-left g l = record {
  room : 0 < length l.buf;
  started : IsTrue (g.F.Files.view l.files).started;
  same_modelled : (g.F.Files.view l.files).modelled ≡ (g.F.Files.view l.initial.files).modelled;
  same_held : (g.F.Files.view l.files).holds ≡ (g.F.Files.view l.initial.files).holds;
  same_failing : (g.F.Files.view l.files).only_missing_fail ≡ (g.F.Files.view l.initial.files).only_missing_fail;
  count : (g.F.Files.view l.initial.files).faults ≤ (g.F.Files.view l.files).faults;
  most : l.left ≤ l.limit;
  took : IsTrue (g.F.Files.view l.initial.files).modelled →
      TookSome g.C.TextCheck.is_fed l.initial.checker l.checker l.limit (g.F.Files.view l.initial.files).left (g.F.Files.view l.files).left l.left;
}

abbrev pub decreases-loop-left : goal.decreases-loop-left
decreases-loop-left g l = l.left
