-- The status and the text of what a certificate is made into.
use Rattle.std.specs.Prelude.{ℕ, List}
use Rattle.pc_common.specs.declared.status.Status.{Status, TheVariants.{Observable as is_observable, Done, CertRefused}}
use Rattle.cert_check.specs.declared.checked.Checked.TheVariants.{Observable as seen, Refused as refused_at}
use Rattle.command_base.specs.CheckedTexts.{checked_text}
use Rattle.lift_command.specs.declared.lifting.FoundLift.{FoundLift, TheVariants.{Observable, Text, Refused}}

abbrev pub lift_status : FoundLift → Status
lift_status Observable = is_observable
lift_status (Text text) = Done
lift_status (Refused n) = CertRefused

-- a lifted text, or the line that `verify` writes
abbrev pub lift_text : FoundLift → List ℕ
lift_text Observable = checked_text seen
lift_text (Text text) = text.items
lift_text (Refused n) = checked_text (refused_at n)
