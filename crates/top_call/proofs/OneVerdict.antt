-- What `check` writes `verify` takes, and what `check86` writes `verify86` takes.
use Rattle.std.proofs.Common.{◌≡◌, ℕ, ◌≤◌, List, Some, length, refl, sym, ◌∙◌, ap, subst}
use Rattle.pc_common.specs.{Case.{Case}, declared.{status.Status.{Status}, fault.InputFault.{InputFault}, limits.TheConstants.{MAX_CERTIFICATE}}}
use Rattle.pc_syntax.specs.Written.{WrittenModel}
use Rattle.pc_ground.specs.declared.version.Version.{Version}
use Rattle.verdicts.{proofs.CertifiedTruth.{refutation_text}, specs.Certified.{IsCertified, seen, unseen}}
use Rattle.cert_check.specs.{Verified.{Verified, seen as a_graph_text, unseen as a_tree_text}, declared.checked.Checked.{Checked}}
use Rattle.cert_check.specs.declared.checked.Checked.TheVariants.{Observable, Unobservable}
use Rattle.command_base.specs.{Inputs.{Inputs, Contents, Says, IsRead}, FileAnswers.{refused as is_refused, found as is_found}, Questions.{question_by}}
use Rattle.command_base.{specs.{Refusals.{refusal}, SecondFiles.{IsForm}, CheckedTexts.{checked_status}}, proofs.OneCase.{one_held, no_fault_said}}
use Rattle.command_base.proofs.{TestForm.{test_form}, ListingForm.{listing_form}, AnsweredFiles.{found_of}}
use Rattle.verdicts.specs.CheckAnswers.{AnswersCheck}
use Rattle.verify_command.{specs.VerifyAnswers.{AnswersVerify, IsJudged, judged}, proofs.OneVerdict.{one_found}}
use Rattle.command_base.specs.Command.{check, verify, check_listing, verify_listing}
use Rattle.top_call.{specs.Laws.{HasOneStatus, of_a_test, of_a_listing}, proofs.Headline.{answer_to_command}}

read_alike : (holds later : Contents) (name bytes : List ℕ) → later name ≡ holds name → IsRead holds name bytes → IsRead later name bytes
read_alike holds later name bytes same read = record { held = same ∙ read.held; within = read.within }

says_alike : {case_of : List ℕ → Case → Type 0} (holds later : Contents) (i : Inputs) (m : WrittenModel) (c : Case) → later i.model ≡ holds i.model
    → later i.test ≡ holds i.test → Says case_of holds i m c → Says case_of later i m c
says_alike holds later i m c model test says = record {
  model_bytes = says.model_bytes;
  test_bytes = says.test_bytes;
  model_read = read_alike holds later i.model says.model_bytes model says.model_read;
  test_read = read_alike holds later i.test says.test_bytes test says.test_read;
  says_model = says.says_model;
  says_case = says.says_case;
}

-- a certificate that is written, and what its text is found to be
certified_found : {version : Version} (m : WrittenModel) (c : Case) (status : Status) (text : List ℕ) (found : Checked)
    → IsCertified version m c status text → length text ≤ MAX_CERTIFICATE
    → Verified (question_by m c) text found → checked_status found ≡ status
certified_found m c status text found (seen graph) short is = ap checked_status (one_found m c text found Observable is (a_graph_text short graph))
certified_found m c status text found (unseen lines text_is tree) short is =
    ap checked_status (one_found m c text found Unobservable is (a_tree_text short (refutation_text m c text_is tree)))

module _ {case_of : List ℕ → Case → Type 0} {first_fault : List ℕ → List ℕ → InputFault → Type 0} (form : IsForm case_of first_fault)
    (holds later : Contents) (i : Inputs) (certificate : List ℕ) (model : later i.model ≡ holds i.model) (test : later i.test ≡ holds i.test) where
  -- what is judged of a written certificate
  judged_alike : (m : WrittenModel) (c : Case) (text : List ℕ) {version : Version} {status second : Status} {line : List ℕ}
      → IsCertified version m c status text → length text ≤ MAX_CERTIFICATE
      → later certificate ≡ Some text → IsJudged later certificate m c second line → second ≡ status
  judged_alike m c text {status} certified short held (judged {bytes = bytes} {found = what} held2 is) =
      let Q : List ℕ → Type 0 = λ t. Verified (question_by m c) t what in
      certified_found m c status text what certified short (subst Q (one_held later certificate bytes text held2 held) is)

  same_status : {version : Version} {status second : Status} {text line : List ℕ} → AnswersCheck case_of first_fault holds i version status text
      → length text ≤ MAX_CERTIFICATE
      → later certificate ≡ Some text → AnswersVerify case_of first_fault later i certificate second line → second ≡ status
  same_status (is_refused (refusal first at)) short held (is_refused (refusal first2 at2)) = refl
  same_status (is_refused (refusal {fault = f} first at)) short held (is_found {m = m} {c = c} says is) =
      absurd (no_fault_said form holds i m c f (says_alike later holds i m c (sym model) (sym test) says) first)
  same_status (is_found {m = m} {c = c} says certified) short held (is_refused (refusal {fault = f} first at)) =
      absurd (no_fault_said form later i m c f (says_alike holds later i m c model test says) first)
  same_status {status} {second} {text} {line} (is_found {m = m} {c = c} says certified) short held (is_found {m = n} {c = d} says2 is) =
      let theirs : IsJudged later certificate m c second line =
      found_of form {finds = IsJudged later certificate} {status = second} {text = line} (is_found {m = n} {c = d} says2 is)
      m c (says_alike holds later i m c model test says) in
      judged_alike m c text certified short held theirs

pub one_status : (holds later : Contents) → HasOneStatus holds later
one_status holds later i certificate text line words again status second _ _ (of_a_test {version}) is on model test a short held b =
    same_status test_form holds later i certificate model test (answer_to_command a (check version i) is) short held
    (answer_to_command b (verify i certificate) on)
one_status holds later i certificate text line words again status second _ _ of_a_listing is on model test a short held b =
    same_status listing_form holds later i certificate model test (answer_to_command a (check_listing i) is) short held
    (answer_to_command b (verify_listing i certificate) on)
