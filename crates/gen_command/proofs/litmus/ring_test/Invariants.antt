-- The first line and the lines of the first cores were put.
use Rattle.std.{proofs.Common.{◌≡◌, ◌++◌, flat_map}, specs.{Prelude.{codes}, List.{range_with_len}}}
use Rattle.gen_command.specs.Ring.{core_lines}
use Rattle.gen_command.proofs.litmus.ring_test.Given as goal

abbrev pub invariant-loop-core : goal.invariant-loop-core
invariant-loop-core l =
    l.text.items ≡ codes "Litmus \"ring\".\n" ++ flat_map (core_lines l.n) (range_with_len 0 l.core)
