-- The status and the line of what a text was found to be.
use Rattle.std.specs.{Prelude.{◌++◌, ℕ, List, codes}, Fmt.{decimal}}
use Rattle.pc_common.specs.declared.status.Status.{Status, TheVariants.{Observable, Unobservable, CertRefused}}
use Rattle.cert_check.specs.declared.checked.Checked.{Checked, TheVariants.{Observable as seen, Unobservable as unseen, Refused as refused_at}}

abbrev pub checked_status : Checked → Status
checked_status seen = Observable
checked_status unseen = Unobservable
checked_status (refused_at n) = CertRefused

abbrev pub checked_text : Checked → List ℕ
checked_text seen = codes "verified observable\n"
checked_text unseen = codes "verified unobservable\n"
checked_text (refused_at n) = codes "certificate refused at line " ++ decimal n ++ codes "\n"
