-- The nodes up to the loop's are in the list.
use Rattle.std.proofs.Common.{◌≡◌, take}
use Rattle.refutation.proofs.list.list_of.Given as goal

abbrev pub invariant-loop-node : goal.invariant-loop-node
invariant-loop-node l = l.list ≡ take l.node-index l.nodes
