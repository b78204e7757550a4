use Rattle.std.{proofs.{Common.{arith, ◌≡◌, ◌<◌, ◌-◌, sym, not, false, get_or}, lemmas.{Grind.{common_steps}, List.Sums.{suffix_len_is}}}, specs.Prelude.{◌==◌}}
use Rattle.pc_common.proofs.line_column.tail_len.Goals.{then-loop-start-test+else-before-start-ne10, else-loop-start-test}
use Rattle.pc_common.proofs.line_column.tail_len.Goals as goal

pub returns-clause-value : goal.returns-clause-value
returns-clause-value c =
    let start = c.loop-start.start in let before = c.args.before.now in
    let stop : 0 < start → not (get_or before (start - 1) 0 == 10) ≡ false = λ above.
    elim c.loop-start-test.branch [
      | then-loop-start-test+else-before-start-ne10 w ↦ grind (arith, common_steps)
      | else-loop-start-test w ↦ absurd (omega arith)
    ] in
    sym (suffix_len_is (λ b. not (b == 10)) before start 0 c.loop-start.invariant.within c.loop-start.invariant.no_line_end stop)
