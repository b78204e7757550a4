-- The code's report, what it is of, and its text.
use Rattle.std.specs.Prelude.{◌≡◌, ℕ, List, length}
use Rattle.cert_check.specs.Verdicts.{plain_verdict}
use Rattle.verdicts.specs.{declared.verdict.FoundVerdict.{FoundVerdict}, Verdicts.{kind_of_found}, StepCounts.{splits_found, leaves_found}}
use Rattle.gen_command.specs.{declared.report.Report.{Report}, Texts.{ring_text}}

-- the report of what was found of the ring of n cores
pub record IsReport (n : ℕ) (v : FoundVerdict) (r : Report) : Type 0 where
  pub cores : r.cores ≡ n
  pub verdict : plain_verdict r.verdict ≡ kind_of_found v.found
  pub nodes : r.nodes ≡ length v.front.numbering
  pub splits : r.splits ≡ splits_found v.found
  pub leaves : r.leaves ≡ leaves_found v.found

abbrev pub report_text : Report → List ℕ
report_text r = ring_text r.cores (plain_verdict r.verdict) r.nodes r.splits r.leaves
