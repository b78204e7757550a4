use Rattle.std.proofs.Common.{◌≡◌, ℕ, ◌<◌, false, get_or}
use Rattle.litmus_reader.specs.{Items.{is_named}, declared.item.Head.{Head}}
use Rattle.litmus_reader.proofs.rows.place_of.Given as goal

abbrev pub invariant-loop-k : goal.invariant-loop-k
invariant-loop-k l = (j : ℕ) (h : Head) → j < l.k → is_named l.end (get_or l.before j h) ≡ false
