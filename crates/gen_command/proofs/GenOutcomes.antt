-- The outcome of `gen`: what its answer says, and that it is due.
use Rattle.std.proofs.Common.{◌≡◌, ℕ, List, refl, sym, subst}
use Rattle.pc_common.specs.{Outside.{FilesView}, Case.{Case}, declared.{fault.InputFault.{InputFault}, status.Status.{Status}}}
use Rattle.pc_common.specs.declared.status.Status.TheVariants.{Done, Usage, Refused, ReadFault, Memory}
use Rattle.pc_syntax.specs.Written.{WrittenModel}
use Rattle.litmus_reader.specs.Answer.{CaseOf}
use Rattle.pc_front.specs.Front.{IsFirstFrontFault as IsTestFault}
use Rattle.cert_check.specs.Verdicts.{plain_verdict}
use Rattle.gen_command.specs.{Ring.{ring_model, ring_test}, declared.report.Report.{Report}, Texts.{SaysRing, IsRingFault, ring_text}, Reports.{report_text}}
use Rattle.gen_command.specs.GenAnswers.{IsRingReport, AnswersGen, refused_ring, reported_ring, IsGenDue, IsGenOutcome}
use Rattle.command_base.specs.declared.ending.Ending.{Ending, TheVariants.{ReadFault as a_read_fault, Memory as a_memory, Refused as a_refusal}}
use Rattle.command_base.specs.{Endings.{ending_status, ending_text, bytes_of, IsBytesEnding}, Outcomes.{IsOutcome}}
use Rattle.command_base.proofs.{InputsRead.{refusal_is, reads_none}, TestForm.{test_form}}

done_no_usage : Done ≡ Usage → ⊥
done_no_usage e = cc

done_no_read_fault : Done ≡ ReadFault → ⊥
done_no_read_fault e = cc

refused_no_usage : Refused ≡ Usage → ⊥
refused_no_usage e = cc

refused_no_read_fault : Refused ≡ ReadFault → ⊥
refused_no_read_fault e = cc

memory_no_usage : Memory ≡ Usage → ⊥
memory_no_usage e = cc

memory_no_read_fault : Memory ≡ ReadFault → ⊥
memory_no_read_fault e = cc

pub memory_outcome : (n : ℕ) → IsGenOutcome n Memory (ending_text a_memory)
memory_outcome n = record { no_usage = memory_no_usage; no_read_fault = memory_no_read_fault; answers = λ memory. absurd (memory refl) }

-- the report on the ring of n cores
pub report_outcome : (n : ℕ) (r : Report) → IsRingReport n r → IsGenOutcome n Done (report_text r)
report_outcome n r is = record {
  no_usage = done_no_usage;
  no_read_fault = done_no_read_fault;
  answers = λ memory.
      let P : ℕ → Type 0 = λ k. AnswersGen n Done (ring_text k (plain_verdict r.verdict) r.nodes r.splits r.leaves) in
      subst P (sym is.cores) (reported_ring is.says is.summary);
}

-- the two texts say no front
pub ending_outcome : (n : ℕ) (e : Ending) → IsBytesEnding CaseOf IsTestFault ring_model (ring_test n) e → IsGenOutcome n (ending_status e) (ending_text e)
ending_outcome n (a_refusal r) is = record {
  no_usage = refused_no_usage;
  no_read_fault = refused_no_read_fault;
  answers = λ memory.
      let P : List ℕ → Type 0 = λ text. AnswersGen n Refused text in
      subst P (refusal_is (bytes_of r.fault.file ring_model (ring_test n)) r.fault r refl is.3.0 is.3.1) (refused_ring is.0);
}
ending_outcome n a_memory is = memory_outcome n
ending_outcome n a_read_fault is = absurd is

-- no file is touched, and what is answered needs nothing of the files
pub gen_outcome : {F : Type 0} {view : F → FilesView} (known : Type 0) (files : F)
    (n : ℕ) (status : Status) (text : List ℕ) → IsGenOutcome n status text
    → IsOutcome view ⊥ known ⊥ (AnswersGen n) files files status text
gen_outcome known files n status text is = record {
  keeps = reads_none;
  usage_only = is.no_usage;
  cause = λ e. absurd (is.no_read_fault e);
  missing_only = λ c e. absurd (is.no_read_fault e);
  missing_due = λ c lacks. absurd lacks;
  answers = λ t no_fault memory. is.answers memory;
}

-- the two texts of a ring say something, or have a fault
faultless : {n : ℕ} {m : WrittenModel} {c : Case} {f : InputFault} → SaysRing n m c → IsRingFault n f → ⊥
faultless {n} {m} {c} {f} says fault = test_form.no_fault ring_model (ring_test n) f fault m c says.says_model says.says_test

pub gen_due : {n : ℕ} {status : Status} {text : List ℕ} → AnswersGen n status text → IsGenDue n status
gen_due (reported_ring says summary) = record { found = λ m c other. refl; fault = λ f is. absurd (faultless says is) }
gen_due (refused_ring is) = record { found = λ m c says. absurd (faultless says is); fault = λ f other. refl }
