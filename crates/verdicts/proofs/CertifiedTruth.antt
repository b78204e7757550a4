-- What a verdict with its certificate says of the outcome, and which verdict is due.
use Rattle.std.proofs.Common.{◌≡◌, ℕ, List, refl, sym}
use Rattle.pc_common.specs.{Case.{Case}, declared.status.Status.{Status}}
use Rattle.pc_common.specs.declared.status.Status.TheVariants.{Observable as is_observable, Unobservable as is_unobservable, Usage, ReadFault}
use Rattle.pc_common.specs.Lines.{Line, unobservable, lines_text}
use Rattle.pc_syntax.specs.Written.{WrittenModel}
use Rattle.pc_ground.specs.declared.version.Version.{Version}
use Rattle.cert_check.specs.Certificates.{IsTreeCertificate, IsCertificateText}
use Rattle.command_base.specs.{Questions.{names_by, question_by}, VerdictStatus.{IsTrueStatus, IsDueStatus}}
use Rattle.command_base.proofs.CertificateTruth.{graph_observable, tree_unobservable}
use Rattle.solver.specs.declared.search.answer.Answer.{Answer as Found, TheVariants.{Observable as a_graph, Unobservable as a_refutation}}
use Rattle.verdicts.specs.{Verdicts.{status_of}, Certified.{IsCertified, seen, unseen}}

one_verdict : is_observable ≡ is_unobservable → ⊥
one_verdict e = cc

-- the text of a refutation of either version is one of a certificate
pub refutation_text : {version : Version} (m : WrittenModel) (c : Case) {text : List ℕ} {lines : List Line} → text ≡ lines_text (names_by m c) lines
    → IsTreeCertificate (question_by m c) version lines → IsCertificateText (question_by m c) unobservable text
refutation_text {version} m c {lines = lines} is tree = record { lines = lines; text_is = is; certificate = (version, tree) }

pub certified_true : {version : Version} {m : WrittenModel} {c : Case} {status : Status} {text : List ℕ}
    → IsCertified version m c status text → IsTrueStatus m c status
certified_true {m = m} {c = c} {text = text} (seen graph) = (λ e. graph_observable m c text graph, λ e. absurd (one_verdict e))
certified_true {m = m} {c = c} {text = text} (unseen lines is tree) =
    (λ e. absurd (one_verdict (sym e)), λ e. tree_unobservable m c text (refutation_text m c is tree))

pub certified_due : {version : Version} {m : WrittenModel} {c : Case} {status : Status} {text : List ℕ}
    → IsCertified version m c status text → IsDueStatus m c status
certified_due {m = m} {c = c} {text = text} (seen graph) = (λ o. refl, λ none. absurd (none (graph_observable m c text graph)))
certified_due {m = m} {c = c} {text = text} (unseen lines is tree) =
    (λ o. absurd (tree_unobservable m c text (refutation_text m c is tree) o), λ none. refl)

-- the status of a verdict is neither that of other words nor that of a failed call
pub no_usage_of : (found : Found) → status_of found ≡ Usage → ⊥
no_usage_of (a_graph g) e = cc
no_usage_of (a_refutation r) e = cc

pub no_read_fault_of : (found : Found) → status_of found ≡ ReadFault → ⊥
no_read_fault_of (a_graph g) e = cc
no_read_fault_of (a_refutation r) e = cc
