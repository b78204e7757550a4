use Rattle.std.proofs.Common.{◌≡◌, take}
use Rattle.pattern_reader.proofs.rows.copy_stated.Given as goal

abbrev pub invariant-loop-line : goal.invariant-loop-line
invariant-loop-line l = l.copies ≡ take l.line-index l.line-items
