use Rattle.std.proofs.Common.{◌≡◌, ℕ, ◌+◌, ◌-◌, ◌≤◌, List, ◌++◌, length}
use Rattle.litmus_reader.specs.Reading.{NamesAt}
use Rattle.litmus_reader.proofs.reading.names_at.Given as goal

abbrev pub invariant-loop-next : goal.invariant-loop-next
invariant-loop-next l = record {
  reached : l.next ≡ l.k + length l.names;
  within : l.next ≤ length l.tokens;
  agree : (names : List (List ℕ)) → NamesAt l.tokens l.k names → (ws : List (List ℕ)) × (names ≡ l.names ++ ws) × NamesAt l.tokens l.next ws;
}

abbrev pub decreases-loop-next : goal.decreases-loop-next
decreases-loop-next l = length l.tokens - l.next
