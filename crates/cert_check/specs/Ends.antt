-- What a stage counts as at the text's end.
use Rattle.cert_check.specs.declared.checked.Checked.{Checked, TheVariants.{Observable, Unobservable, Refused}}
use Rattle.cert_check.specs.declared.{header.Verdict.TheVariants.{Observable as seen, Unobservable as unseen}, stage.Stage.{Stage}}
use Rattle.cert_check.specs.declared.stage.Stage.TheVariants.{Start, SaidObservable, SaidUnobservable, Graph, Tree, Ended}

-- the verdict of a whole certificate; any stage before that counts as refused
abbrev pub checked_of : Stage → Checked
checked_of Start = Refused 0
checked_of SaidObservable = Refused 0
checked_of (SaidUnobservable tree) = Refused 0
checked_of (Graph g) = Refused 0
checked_of (Tree o) = Refused 0
checked_of (Ended seen) = Observable
checked_of (Ended unseen) = Unobservable
