use Rattle.std.proofs.Common.{◌+◌, ◌≤◌, vec_len, vec_capacity}
use Rattle.undo_trail.proofs.OrInto.{HasJoinedWords}
use Rattle.undo_trail.proofs.trail.or_into.Given as goal

abbrev pub invariant-loop-k : goal.invariant-loop-k
invariant-loop-k l = record {
  words : HasJoinedWords l.initial.trail.items l.initial.table l.to l.from l.trail.items l.table l.changed l.k;
  capacity : vec_capacity l.initial.trail ≤ vec_capacity l.trail;
  len : vec_len l.trail ≤ vec_len l.initial.trail + l.k;
}
