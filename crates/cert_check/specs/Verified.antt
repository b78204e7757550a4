-- What a text is to a question: its certificate, or a text that is refused at a line.
use Rattle.std.specs.Prelude.{ℕ, ◌<◌, ◌≤◌, List, length}
use Rattle.pc_common.specs.{declared.limits.TheConstants.{MAX_CERTIFICATE}, Lines.{Verdict, observable, unobservable}}
use Rattle.line_judge.specs.Texts.{IsRefusedAt}
use Rattle.cert_check.specs.{Certificates.{Question, IsCertificateText}, RawLines.{RawBegins, RawWhole}, declared.checked.Checked.{Checked}}
use Rattle.cert_check.specs.declared.checked.Checked.TheVariants.{Observable, Unobservable, Refused}

-- the verdict whose certificate the text is; or, where it is none's, the first line with which it doesn't begin well
-- any more; or 0 where it is longer than the limit
pub data Verified (q : Question) (text : List ℕ) : Checked → Type 0 where
  seen : length text ≤ MAX_CERTIFICATE → IsCertificateText q observable text → Verified q text Observable
  unseen : length text ≤ MAX_CERTIFICATE → IsCertificateText q unobservable text → Verified q text Unobservable
  too_long : MAX_CERTIFICATE < length text → Verified q text (Refused 0)
  refused : (n : ℕ) → length text ≤ MAX_CERTIFICATE → ((v : Verdict) → IsCertificateText q v text → ⊥)
      → IsRefusedAt (RawBegins q) (RawWhole q) text n → Verified q text (Refused n)
