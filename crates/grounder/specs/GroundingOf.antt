-- What a closed formula says where its slots stand for these micro-ops and cores, with constants folded.
use Rattle.std.specs.Prelude.{List, [], ◌∷◌, ◌++◌, map}
use Rattle.pc_common.specs.Case.{Case}
use Rattle.pc_syntax.specs.{declared.{term.Sort.{Sort}, bound.Bound.{Bound}}, Truth.{range_of}, Closed.{PlainClosed}}
use Rattle.pc_ground.specs.{PlainGround.{PlainGround, simplified}, Unfolded.{closed_unfolded}}
use Rattle.static_preds.specs.Values.{meanings}
use Rattle.grounder.specs.{declared.operator.Operator.{Operator}, Members.{unfolded_all}}

abbrev pub grounding_of : Case → List Bound → PlainClosed → PlainGround
grounding_of c slots p = simplified (closed_unfolded c (meanings slots) p)

-- a quantifier, which joins its body's meaning at each value of its range
abbrev pub grounding_over : Operator → Case → List Bound → Sort → PlainClosed → PlainGround
grounding_over con c slots sort p =
    simplified (unfolded_all con (map (λ v. closed_unfolded c (meanings slots ++ v ∷ []) p) (range_of c sort)))
