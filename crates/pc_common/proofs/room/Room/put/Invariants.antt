-- The first `at` bytes of the piece were put.
use Rattle.std.proofs.Common.{length, ◌-◌, ◌≡◌, ◌≤◌, ◌+◌, take}
use Rattle.pc_common.specs.{Writes.{success}, Room.{Puts}}
use Rattle.pc_common.proofs.room.Room.put.Given as goal

abbrev pub invariant-loop-at : goal.invariant-loop-at
invariant-loop-at g l = record {
  within : l.at ≤ length l.piece;
  puts : Puts g.K.Sink.view l.initial.self l.self success (take l.at l.piece);
  fits : l.initial.self.waiting.used + length l.piece ≤ 4096 → (l.self.waiting.used ≡ l.initial.self.waiting.used + l.at)
      × (l.self.out.now ≡ l.initial.self.out.now);
}

abbrev pub decreases-loop-at : goal.decreases-loop-at
decreases-loop-at g l = length l.piece - l.at
