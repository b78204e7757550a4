-- The code's verdict as a plain one.
use Rattle.pc_common.specs.Lines.{Verdict as PlainVerdict, observable, unobservable}
use Rattle.cert_check.specs.declared.header.Verdict.{Verdict, TheVariants.{Observable, Unobservable}}

abbrev pub plain_verdict : Verdict → PlainVerdict
plain_verdict Observable = observable
plain_verdict Unobservable = unobservable
