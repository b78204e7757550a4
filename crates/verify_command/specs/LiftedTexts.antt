-- The status and the line of what a text was found to be.
use Rattle.std.specs.{Prelude.{◌++◌, ℕ, List, codes}, Fmt.{decimal}}
use Rattle.pc_common.specs.declared.status.Status.{Status, TheVariants.{Unobservable, CertRefused}}
use Rattle.lifted_check.specs.declared.lifted.Lifted.{Lifted, TheVariants.{Unobservable as unseen, Refused as refused_at}}

abbrev pub lifted_status : Lifted → Status
lifted_status unseen = Unobservable
lifted_status (refused_at n) = CertRefused

abbrev pub lifted_text : Lifted → List ℕ
lifted_text unseen = codes "verified unobservable\n"
lifted_text (refused_at n) = codes "certificate refused at line " ++ decimal n ++ codes "\n"
