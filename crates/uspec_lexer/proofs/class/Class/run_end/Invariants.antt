use Rattle.std.proofs.Common.{◌≡◌, length, ◌-◌, ℕ, ◌<◌, ◌≤◌, true, slice_index}
use Rattle.uspec_lexer.specs.Scan.{is_in}
use Rattle.uspec_lexer.proofs.class.Class.run_end.Given as goal

abbrev pub invariant-loop-end : goal.invariant-loop-end
invariant-loop-end g l = record {
  rises : l.from ≤ l.end;
  within : l.end ≤ length l.bytes;
  inside : (i : ℕ) → l.from ≤ i → i < l.end → is_in g.L.LexicalGrammar.table l.self (slice_index l.bytes i) ≡ true;
}

abbrev pub decreases-loop-end : goal.decreases-loop-end
decreases-loop-end g l = length l.bytes - l.end
