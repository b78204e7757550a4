-- All words but those that are left were read.
use Rattle.std.{proofs.Common.{◌+◌, [], length}, specs.Option.{option_map_or}}
use Rattle.pc_ground.specs.Words.{words}
use Rattle.lifted_check.proofs.NumberRow.{ReadSoFar}
use Rattle.lifted_check.proofs.numbers.read_numbers.Given as goal

abbrev pub invariant-loop-left : goal.invariant-loop-left
invariant-loop-left l = record {
  so_far : ReadSoFar (words l.text) (option_map_or (λ r. words r.now) l.left []) l.row.items;
}

abbrev pub decreases-loop-left : goal.decreases-loop-left
decreases-loop-left l = option_map_or (λ r. length r.now + 1) l.left 0
