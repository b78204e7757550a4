-- The answer of `gen`, and the status that is due.
use Rattle.std.specs.Prelude.{◌≡◌, ◌≢◌, ℕ, List, Result}
use Rattle.pc_common.specs.{Case.{Case}, Lines.{Verdict}, declared.{fault.InputFault.{InputFault}, status.Status.{Status}}}
use Rattle.pc_common.specs.declared.status.Status.TheVariants.{Done, Usage, Refused, ReadFault, Memory}
use Rattle.pc_syntax.specs.Written.{WrittenModel}
use Rattle.cert_check.specs.Verdicts.{plain_verdict}
use Rattle.gen_command.specs.{Ring.{ring_model, ring_test}, declared.report.Report.{Report}, Reports.{report_text}, Texts.{SaysRing, IsRingFault, ring_text}}
use Rattle.gen_command.specs.Summaries.{IsSummary}
use Rattle.command_base.specs.{Refusals.{refused_text}, declared.ending.Ending.{Ending}, Endings.{bytes_of, HasOutcome}}

-- the report says what is found of the model and the case of the ring
pub record IsRingReport (n : ℕ) (r : Report) : Type 0 where
  pub cores : r.cores ≡ n
  pub m : WrittenModel
  pub c : Case
  pub says : SaysRing n m c
  pub summary : IsSummary m c (plain_verdict r.verdict) r.nodes r.splits r.leaves

-- the refusal by the first fault of the two texts of the ring of n cores, or the report on them
pub data AnswersGen (n : ℕ) : Status → List ℕ → Type 0 where
  refused_ring : {fault : InputFault} → IsRingFault n fault
      → AnswersGen n Refused (refused_text (bytes_of fault.file ring_model (ring_test n)) fault)
  reported_ring : {nodes splits leaves : ℕ} {m : WrittenModel} {c : Case} {v : Verdict} → SaysRing n m c
      → IsSummary m c v nodes splits leaves
      → AnswersGen n Done (ring_text n v nodes splits leaves)

-- done where the two texts have no fault, and refused where they have one
pub record IsGenDue (n : ℕ) (status : Status) : Type 0 where
  pub found : (m : WrittenModel) (c : Case) → SaysRing n m c → status ≡ Done
  pub fault : (f : InputFault) → IsRingFault n f → status ≡ Refused

-- the outcome of `gen`, whatever the files are
pub record IsGenOutcome (n : ℕ) (status : Status) (text : List ℕ) : Type 0 where
  pub no_usage : status ≢ Usage
  pub no_read_fault : status ≢ ReadFault
  pub answers : status ≢ Memory → AnswersGen n status text

-- what `gen` returns: the report, or the ending
abbrev pub ReturnsReport : ℕ → Result Report Ending → Type 0
ReturnsReport n result = HasOutcome result (λ r. Done) report_text (IsGenOutcome n)
