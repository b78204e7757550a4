use Rattle.std.proofs.Common.{◌≡◌, ℕ, ◌<◌, get_or}
use Rattle.litmus_reader.specs.{Content.{Never, SplitFrom}, declared.item.Head.{Head}}
use Rattle.litmus_reader.proofs.rows.split_instruction.Given as goal

abbrev pub invariant-loop-earlier : goal.invariant-loop-earlier
invariant-loop-earlier l = (k : ℕ) (e : Head) → k < l.earlier-index → get_or l.before k e ≡ e → Never (SplitFrom l.head e)
