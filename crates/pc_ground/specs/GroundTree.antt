-- The ground tree of a model's axioms in a case: it numbers the positions of certificates.
use Rattle.std.specs.Prelude.{List, [], map}
use Rattle.pc_common.specs.{Case.{Case}, World.{Node}}
use Rattle.pc_syntax.specs.{Written.{WrittenModel}, Observable.{axioms_of, macros_of}, Closed.{PlainClosed}}
use Rattle.pc_ground.specs.{Tree.{Tree}, PlainGround.{PlainGround, normal}, Unfolded.{all_of, unfolded, closed_unfolded}}

-- of the axioms as written
abbrev pub ground_tree : WrittenModel → Case → Tree Node
ground_tree m c = normal (all_of (map (unfolded m.stages c (macros_of m) []) (axioms_of m)))

-- what closed axioms say together
abbrev pub axioms_unfolded : Case → List PlainClosed → PlainGround
axioms_unfolded c axioms = all_of (map (closed_unfolded c []) axioms)

-- of closed axioms
abbrev pub closed_ground_tree : Case → List PlainClosed → Tree Node
closed_ground_tree c axioms = normal (axioms_unfolded c axioms)
