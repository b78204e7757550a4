use Rattle.std.proofs.Common.{◌≡◌, ◌<◌, ℕ, get_or}
use Rattle.pc_ground.specs.declared.literal.Literal.TheVariants.{NoEdge}
use Rattle.order_graph.specs.Rows.{IsOver}
use Rattle.order_graph.proofs.clashes.first_joined_pair.Given as goal

abbrev pub invariant-loop-literal : goal.invariant-loop-literal
invariant-loop-literal l = (j x y : ℕ) → j < l.literal-index → get_or l.literals j (NoEdge x y) ≡ NoEdge x y → IsOver l.table l.a l.b x y → ⊥
