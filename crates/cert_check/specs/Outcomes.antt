-- What the answer to a text says of the outcome.
use Rattle.std.specs.Prelude.{Bool, IsTrue, map, ⊤}
use Rattle.pc_common.specs.World.{Node, World, IsWorld}
use Rattle.pc_syntax.specs.{Closed.{closed_satisfies}, Observable.{IsObservable}}
use Rattle.pc_ground.specs.{declared.front.Front.{Front}, Stages.{plain_stage, plain_axioms, numbers_of}}
use Rattle.cert_check.specs.declared.checked.Checked.{Checked, TheVariants.{Observable, Unobservable, Refused}}

-- every axiom of the front is true in the world
abbrev pub satisfied_by : Front → World Node → Bool
satisfied_by front = closed_satisfies (plain_axioms front.axioms) front.case

-- a graph shows that some world makes every axiom true, and a refutation that none does; a refused text says nothing
abbrev pub SaysOutcome : Front → Checked → Type 0
SaysOutcome front Observable =
    IsObservable (numbers_of (map plain_stage front.stages)) front.case.ops (satisfied_by front)
SaysOutcome front Unobservable = (w : World Node) → IsWorld w → IsTrue (satisfied_by front w) → ⊥
SaysOutcome front (Refused n) = ⊤
