use Rattle.std.{proofs.Common.{ℕ, take}, specs.Prelude.{Contains, ◌↔◌}}
use Rattle.pc_ground.specs.declared.literal.Literal.TheVariants.{Edge}
use Rattle.solver.proofs.search.answer.edge_pairs.Given as goal

abbrev pub invariant-loop-k : goal.invariant-loop-k
invariant-loop-k l = (i j : ℕ) → Contains l.pairs.keys (i, j) ↔ Contains (take l.k l.graph.literals) (Edge i j)
