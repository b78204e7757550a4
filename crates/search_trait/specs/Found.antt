-- What the search finds of a front.
use Rattle.pc_common.specs.World.{Node}
use Rattle.pc_ground.specs.{declared.{front.Front.{Front}, version.Version.TheVariants.{One}}, Tree.{Tree}, GroundTree.{closed_ground_tree}}
use Rattle.pc_ground.specs.Stages.{plain_axioms}
use Rattle.solver.specs.{Answers.{IsAnswer}, declared.search.answer.Answer.{Answer}}

abbrev pub tree_of : Front → Tree Node
tree_of f = closed_ground_tree f.case (plain_axioms f.axioms)

-- an answer to the ground tree of its axioms, whose refutations are of version 1
abbrev pub IsFound : Front → Answer → Type 0
IsFound f found = IsAnswer One f.numbering (tree_of f) found
