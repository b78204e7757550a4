-- The whole so far is And over the last k edges.
use Rattle.std.proofs.Common.{◌≡◌, ◌-◌, length, drop}
use Rattle.pc_syntax.specs.Closed.{closed_edges}
use Rattle.pc_ground.specs.PlainGround.{plain_ground}
use Rattle.grounder.specs.GroundingOf.{grounding_of}
use Rattle.grounder.proofs.atoms.ground_edges.Given as goal

abbrev pub invariant-loop-k : goal.invariant-loop-k
invariant-loop-k l = plain_ground l.whole ≡ grounding_of l.case l.env.items (closed_edges (drop (length l.edges - l.k) l.edges))
