-- The verdict on a model and a case as a status, with the text of a certificate.
use Rattle.std.specs.Prelude.{◌≡◌, ℕ, List}
use Rattle.pc_common.specs.{Case.{Case}, Lines.{Line, observable, lines_text}, declared.status.Status.{Status, TheVariants.{Observable, Unobservable}}}
use Rattle.pc_syntax.specs.Written.{WrittenModel}
use Rattle.pc_ground.specs.declared.version.Version.{Version}
use Rattle.cert_check.specs.Certificates.{IsTreeCertificate, IsCertificateText}
use Rattle.command_base.specs.Questions.{names_by, question_by}

-- a graph with Observable, a refutation of this version with Unobservable
pub data IsCertified (version : Version) (m : WrittenModel) (c : Case) : Status → List ℕ → Type 0 where
  seen : {text : List ℕ} → IsCertificateText (question_by m c) observable text → IsCertified version m c Observable text
  unseen : {text : List ℕ} (lines : List Line) → text ≡ lines_text (names_by m c) lines
      → IsTreeCertificate (question_by m c) version lines
      → IsCertified version m c Unobservable text
