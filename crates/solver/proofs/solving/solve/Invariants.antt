use Rattle.std.proofs.Common.{◌≡◌}
use Rattle.pc_common.specs.World.{Node}
use Rattle.pc_ground.specs.{Tree.{Tree}, Rows.{rows_of}}
use Rattle.solver.specs.Turns.{IsTurnOfTree, turn_weight}
use Rattle.solver.proofs.solving.solve.Given as goal

abbrev pub invariant-loop-turn : goal.invariant-loop-turn
invariant-loop-turn g l = (t : Tree Node) → l.tree ≡ rows_of t → IsTurnOfTree l.fn.version l.numbering t l.turn

abbrev pub decreases-loop-turn : goal.decreases-loop-turn
decreases-loop-turn g l = turn_weight l.turn
