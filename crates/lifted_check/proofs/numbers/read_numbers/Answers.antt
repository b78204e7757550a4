use Rattle.std.proofs.Common.{ℕ, List, subst}
use Rattle.pc_ground.specs.Words.{words}
use Rattle.lifted_check.proofs.NumberRow.{ReadSoFar, row_stop}
use Rattle.lifted_check.proofs.numbers.read_numbers.Goals as goal

pub returns-in_default-decimal_value : goal.returns-in_default-decimal_value
returns-in_default-decimal_value c =
    let ws = words c.args.text.now in
    let so_far = rw c.in-Some.is at c.loop-left.invariant.so_far in
    let P : List (List ℕ) → Type 0 = λ vs. ReadSoFar ws vs c.loop-left.row.items in
    row_stop ws c.first_word.result.0.now _ c.loop-left.row.items (subst P c.first_word.ensures.words so_far)
    c.in_default-decimal_value.ensures
