-- The whole so far is And over the last k nodes.
use Rattle.std.proofs.Common.{◌≡◌, ◌-◌, length, drop}
use Rattle.pc_syntax.specs.Closed.{closed_nodes}
use Rattle.pc_ground.specs.PlainGround.{plain_ground}
use Rattle.grounder.specs.GroundingOf.{grounding_of}
use Rattle.grounder.proofs.atoms.ground_nodes.Given as goal

abbrev pub invariant-loop-k : goal.invariant-loop-k
invariant-loop-k l = plain_ground l.whole ≡ grounding_of l.case l.env.items (closed_nodes (drop (length l.nodes - l.k) l.nodes))
