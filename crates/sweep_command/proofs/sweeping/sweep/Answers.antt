use Rattle.std.proofs.{Common.{ℕ, Bool, [], ◌∷◌, length, ap, ◌∙◌, arith}, lemmas.List.{length-append}}
use Rattle.pc_ground.specs.Stages.{plain_axioms}
use Rattle.pattern_reader.specs.Rows.{row_case}
use Rattle.sweep_command.{specs.Sweeps.{IsAnswerTo}, proofs.RowAnswers.{answers_more}}
use Rattle.sweep_command.proofs.sweeping.sweep.Goals as goal

pub loop-row-preserved : goal.loop-row-preserved
loop-row-preserved c =
    let P : ℕ → Bool → Type 0 = λ k b. IsAnswerTo (plain_axioms c.args.axioms.now) (row_case c.args.pattern.now k) b in
    let old = c.loop-row.answers.items in
    let b = c.in_ok-row_answer.field-0 in
    let grown = c.in_ok-push.ensures.items in
    let count = c.loop-row.invariant.0 in
    let size = ap length grown ∙ length-append old (b ∷ []) in
    (omega (arith, size, count), answers_more P old c.push.new.self.items b c.loop-row.row grown count c.in_ok-row_answer.ensures c.loop-row.invariant.1)
