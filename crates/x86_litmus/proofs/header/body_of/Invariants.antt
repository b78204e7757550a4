use Rattle.std.proofs.Common.{◌≡◌, ◌+◌, ◌-◌, ◌≤◌, length}
use Rattle.x86_litmus.specs.{Header.{header_of, header_behind}, Lines.{lines_from}}
use Rattle.x86_litmus.proofs.header.body_of.Given as goal

abbrev pub invariant-loop-at : goal.invariant-loop-at
invariant-loop-at l = record {
  header : header_of l.bytes ≡ header_behind (length l.bytes) l.at (lines_from l.bytes l.at);
  within : l.at ≤ length l.bytes + 1;
}

abbrev pub decreases-loop-at : goal.decreases-loop-at
decreases-loop-at l = length l.bytes + 1 - l.at
