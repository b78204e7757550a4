-- The lines of the steps before the next one stand after the text.
use Rattle.std.{proofs.Common.{◌≡◌, ◌++◌, take}, specs.List.{flat_map}}
use Rattle.lift_command.specs.WrittenLines.{line_text}
use Rattle.lift_command.proofs.lifted_text.put_lines.Given as goal

abbrev pub invariant-loop-k : goal.invariant-loop-k
invariant-loop-k l = l.text.items ≡ l.initial.text.items ++ flat_map (line_text l.case.ops) (take l.k l.steps)
