-- The numbers so far lead to where the edges that are left begin.
use Rattle.std.proofs.Common.{ℕ, List, [], ◌∷◌, ◌++◌, map, drop}
use Rattle.pc_ground.specs.Keys.{key_node}
use Rattle.lifter.specs.KnownFacts.{AreEdges, AreNumbers}
use Rattle.lifter.proofs.leaves.numbers_along.Given as goal

abbrev pub invariant-loop-next : goal.invariant-loop-next
invariant-loop-next l = record {
  edges : AreEdges l.known (key_node l.at) (map key_node (drop l.next-index l.via) ++ key_node l.to ∷ []);
  numbers : (ks : List ℕ) → AreNumbers l.known (key_node l.at) (map key_node (drop l.next-index l.via) ++ key_node l.to ∷ []) ks
      → AreNumbers l.known (key_node l.fn.from) (map key_node l.via ++ key_node l.to ∷ []) (l.numbers ++ ks);
}
