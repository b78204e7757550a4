-- What a lifted refutation of a model and a case is of.
use Rattle.std.specs.Prelude.{map}
use Rattle.pc_common.specs.Case.{Case}
use Rattle.pc_syntax.specs.{Written.{WrittenModel}, Observable.{axioms_of}}
use Rattle.pc_front.specs.ModelFront.{closed_axiom}
use Rattle.lifted_check.specs.LiftedTexts.{Question as LiftedQuestion}

-- a lifted refutation of them, over the case and the model's axioms, expanded and closed
abbrev pub lifted_question : WrittenModel → Case → LiftedQuestion
lifted_question m c = record { case = c; axioms = map (closed_axiom m) (axioms_of m) }
