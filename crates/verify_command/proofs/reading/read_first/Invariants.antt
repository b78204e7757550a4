-- What was read is what was left at first, without what is left now.
use Rattle.std.proofs.Common.{◌≡◌, ◌≤◌, ◌<◌, ◌-◌, ◌++◌, length, vec_len, IsTrue}
use Rattle.verify_command.proofs.reading.read_first.Given as goal

abbrev pub invariant-loop-bytes : goal.invariant-loop-bytes
invariant-loop-bytes g l = record {
  within : vec_len l.bytes ≤ 67108865;
  room : 0 < length l.buf;
  started : IsTrue (g.F.Files.view l.files).started;
  same_modelled : (g.F.Files.view l.files).modelled ≡ (g.F.Files.view l.initial.files).modelled;
  same_held : (g.F.Files.view l.files).holds ≡ (g.F.Files.view l.initial.files).holds;
  same_failing : (g.F.Files.view l.files).only_missing_fail ≡ (g.F.Files.view l.initial.files).only_missing_fail;
  count : (g.F.Files.view l.initial.files).faults ≤ (g.F.Files.view l.files).faults;
  bytes : IsTrue (g.F.Files.view l.initial.files).modelled →
      (g.F.Files.view l.initial.files).left ≡ l.bytes.items ++ (g.F.Files.view l.files).left;
}

abbrev pub decreases-loop-bytes : goal.decreases-loop-bytes
decreases-loop-bytes g l = 13 - vec_len l.bytes
