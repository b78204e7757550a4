-- A verdict on the front of a model and a case is one on these, and can be written.
use Rattle.std.proofs.Common.{◌≡◌}
use Rattle.pc_common.specs.{Case.{Case}, World.{Node}}
use Rattle.pc_case.specs.MicroOps.{AreMicroOps}
use Rattle.pc_syntax.specs.Written.{WrittenModel}
use Rattle.pc_ground.specs.{declared.{front.Front.{Front}, version.Version.{Version}}, Tree.{Tree}, Rows.{rows_of}, GroundTree.{ground_tree}}
use Rattle.pc_ground.specs.NodeForm.{names_of}
use Rattle.pc_front.specs.Front.{IsFrontOf}
use Rattle.solver.specs.{Answers.{IsAnswer}, declared.search.answer.Answer.{Answer as Found}}
use Rattle.verdicts.{specs.{declared.verdict.FoundVerdict.{FoundVerdict}, Verdicts.{IsVerdict, IsWritable}}, proofs.Fronts.{writable}}

pub verdict_is : (m : WrittenModel) (c : Case) (front : Front) → IsFrontOf m c front → (version : Version) (found : Found)
    → ((t : Tree Node) → front.tree ≡ rows_of t → IsAnswer version front.numbering t found)
    → IsVerdict m c (record { front = front; version = version; found = found })
verdict_is m c front is version found each = record { front_of = is; found = each (ground_tree m c) is.tree }

pub verdict_writable : (m : WrittenModel) (c : Case) (v : FoundVerdict) → AreMicroOps c.ops → IsVerdict m c v → IsWritable (names_of v.front) v.found
verdict_writable m c v kept is = writable m c v.front is.front_of kept v.version v.found is.found
