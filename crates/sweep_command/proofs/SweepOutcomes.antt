-- The outcome of `sweep`: what its answer says, and that it is due.
use Rattle.std.proofs.Common.{◌≡◌, ℕ, Bool, List, refl, sym, ap, subst}
use Rattle.pc_common.specs.{Outside.{FilesView}, Case.{Case}, declared.status.Status.{Status, TheVariants.{Usage, ReadFault, Done}}}
use Rattle.pc_case.specs.MicroOps.{AreMicroOps}
use Rattle.pc_syntax.specs.Written.{WrittenModel}
use Rattle.litmus_reader.proofs.CleanFacts.{are_micro_ops}
use Rattle.pc_ground.specs.Stages.{plain_axioms}
use Rattle.pc_front.proofs.PartsOf.{axioms_within}
use Rattle.pattern_reader.{specs.{Rows.{Pattern, value_for, values_in_row, row_case}, Answer.{PatternOf}}, proofs.Filling.{filled_kept}}
use Rattle.pattern_reader.proofs.Patterns.{one_pattern_of}
use Rattle.sweep_command.specs.{Sweeps.{AreAnswers}, Texts.{sweep_text}, Patterns.{ClosedCase, IsFirstSweepFault, SaysPattern, SaysTask, HasTask}}
use Rattle.sweep_command.specs.{SweepAnswers.{IsSweep, AnswersSweep, refused_sweep, swept, IsSweepDue, IsSweepOutcome}, declared.inputs.Task.{Task}}
use Rattle.sweep_command.proofs.{PatternFiles.{pattern_form}, Shown.{verdict_of}}
use Rattle.command_base.specs.{declared.ending.Ending.{Ending}, Inputs.{Inputs, Contents, Says}, Refusals.{refusal}, Endings.{ending_status, ending_text}}
use Rattle.command_base.{specs.Outcomes.{IsInputsEnding}, proofs.OneCase.{one_held, one_said, no_fault_said}}

-- the micro-ops of a row are those of a test
row_kept : (bytes : List ℕ) (p : Pattern) (row : ℕ) → PatternOf bytes p → AreMicroOps (row_case p row).ops
row_kept bytes p row said =
    let closes = said.closes in
    let P : Case → Type 0 = λ c. AreMicroOps c.ops in
    let read : AreMicroOps closes.case.ops = subst P (sym closes.closed.is) (are_micro_ops closes.closed.items closes.closed.clean) in
    let own : AreMicroOps p.case.ops = subst P (sym (ap (λ (q : Pattern). q.case) closes.is)) read in
    filled_kept (value_for p.opens (values_in_row p row)) p.case.ops own

-- the answers are the verdicts on the model as written
pub sweep_is : (mb tb : List ℕ) (task : Task) (say : SaysTask mb tb task) (answers : List Bool)
    → AreAnswers (plain_axioms task.model.axioms) task.pattern answers
    → IsSweep say.m task.pattern (sweep_text task.pattern answers)
sweep_is mb tb task say answers are = record {
  verdicts = answers;
  count = are.count;
  each = λ k b at.
      verdict_of say.m task.model say.model_of (row_case task.pattern k) (row_kept tb task.pattern k say.says_pattern)
      (axioms_within say.m say.says_model.no_fault task.model say.model_of) b (are.each k b at);
  text_is = refl;
}

done_no_usage : Done ≡ Usage → ⊥
done_no_usage e = cc

done_no_fault : Done ≡ ReadFault → ⊥
done_no_fault e = cc

module _ {F : Type 0} {view : F → FilesView} {old new : F} {i : Inputs} where
  -- the command ends at its two files
  pub ending_outcome : (e : Ending) → IsInputsEnding view ClosedCase IsFirstSweepFault i old new e
      → IsSweepOutcome view i old new (ending_status e) (ending_text e)
  ending_outcome e d = record {
    keeps = d.keeps;
    usage_only = d.usage_only;
    cause = d.cause;
    missing_only = d.missing_only;
    missing_due = d.missing_due;
    answers = λ t no_fault memory. refused_sweep (d.answers t no_fault memory).0;
  }

  module _ {task : Task} (f : HasTask view i old new task) where
    pub swept_outcome : (answers : List Bool) → AreAnswers (plain_axioms task.model.axioms) task.pattern answers
        → IsSweepOutcome view i old new Done (sweep_text task.pattern answers)
    swept_outcome answers are = record {
      keeps = f.keeps;
      usage_only = λ e. absurd (done_no_usage e);
      cause = λ e. absurd (done_no_fault e);
      missing_only = λ c e. absurd (done_no_fault e);
      missing_due = λ c l. absurd (f.held c l);
      answers = λ t other memory. swept (f.says t) (sweep_is f.model f.second task f.task_is answers are);
    }

-- the model and the case that two files say, where they say a pattern
closed_says : {holds : Contents} {i : Inputs} {m : WrittenModel} {p : Pattern} → SaysPattern holds i m p → Says ClosedCase holds i m p.case
closed_says {p = p} says = record {
  model_bytes = says.model_bytes;
  test_bytes = says.pattern_bytes;
  model_read = says.model_read;
  test_read = says.pattern_read;
  says_model = says.says_model;
  says_case = (p, says.says_pattern, refl);
}

one_pattern_said : (holds : Contents) (i : Inputs) (m n : WrittenModel) (p q : Pattern) → SaysPattern holds i m p → SaysPattern holds i n q
    → (m ≡ n) × (p ≡ q)
one_pattern_said holds i m n p q x y =
    let same = one_held holds i.test x.pattern_bytes y.pattern_bytes x.pattern_read.held y.pattern_read.held in (
      (one_said pattern_form holds i m n p.case q.case (closed_says x) (closed_says y)).0,
      one_pattern_of y.pattern_bytes p q (subst (λ b. PatternOf b p) same x.says_pattern) y.says_pattern,
    )

module _ {holds : Contents} {i : Inputs} where
  -- the text is the sweep of what the two files say
  pub sweep_true : {status : Status} {text : List ℕ} → AnswersSweep holds i status text → (m : WrittenModel) (p : Pattern) → SaysPattern holds i m p
      → IsSweep m p text
  sweep_true (refused_sweep (refusal {fault = f} first held)) m p says =
      absurd (no_fault_said pattern_form holds i m p.case f (closed_says says) first)
  sweep_true (swept {m = n} {p = q} {text = t} other is) m p says =
      let one = one_pattern_said holds i n m q p other says in
      subst (λ k. IsSweep k p t) one.0 (subst (λ r. IsSweep n r t) one.1 is)

  pub sweep_due : {status : Status} {text : List ℕ} → AnswersSweep holds i status text → IsSweepDue holds i status
  sweep_due (refused_sweep (refusal {fault = f} first held)) = record {
    found = λ m p says. absurd (no_fault_said pattern_form holds i m p.case f (closed_says says) first);
    fault = λ g fault. refl;
  }
  sweep_due (swept {m = m} {p = p} says is) = record {
    found = λ n q other. refl;
    fault = λ f fault. absurd (no_fault_said pattern_form holds i m p.case f (closed_says says) fault);
  }
