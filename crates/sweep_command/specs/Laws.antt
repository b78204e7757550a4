-- What holds of every answer of `sweep`.
use Rattle.std.specs.Prelude.{ℕ, List}
use Rattle.pc_common.specs.declared.status.Status.{Status}
use Rattle.pc_syntax.specs.Written.{WrittenModel}
use Rattle.pattern_reader.specs.Rows.{Pattern}
use Rattle.command_base.specs.Inputs.{Inputs, Contents}
use Rattle.sweep_command.specs.{Patterns.{SaysPattern}, SweepAnswers.{IsSweep, AnswersSweep}}

-- where the two files say a model and a pattern, the text is their sweep
abbrev pub HasSweepText : Contents → Type 0
HasSweepText holds =
    (i : Inputs) (status : Status) (text : List ℕ) → AnswersSweep holds i status text
    → (m : WrittenModel) (p : Pattern) → SaysPattern holds i m p → IsSweep m p text
