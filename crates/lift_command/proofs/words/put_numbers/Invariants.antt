-- The numbers before the next one stand after the text.
use Rattle.std.{proofs.Common.{◌≡◌, ◌++◌, map, take}, specs.Fmt.{decimal}}
use Rattle.lift_command.specs.WrittenLines.{spaced_words}
use Rattle.lift_command.proofs.words.put_numbers.Given as goal

abbrev pub invariant-loop-number : goal.invariant-loop-number
invariant-loop-number l = l.text.items ≡ l.initial.text.items ++ spaced_words (map decimal (take l.number-index l.numbers))
