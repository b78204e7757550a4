-- Rows whose nodes are numbers below a bound.
use Rattle.std.specs.Prelude.{ℕ}
use Rattle.pc_ground.specs.declared.row.{Row.{Row}, RowKind.{RowKind, TheVariants.{True, False, Lit, And, Or}}}
use Rattle.order_graph.specs.Ways.{IsBelow}

abbrev pub IsKindBelow : ℕ → RowKind ℕ → Type 0
IsKindBelow n True = Unit {0}
IsKindBelow n False = Unit {0}
IsKindBelow n (Lit l) = IsBelow n l
IsKindBelow n And = Unit {0}
IsKindBelow n Or = Unit {0}

-- the nodes of the row are numbers below n
abbrev pub IsRowBelow : ℕ → Row ℕ → Type 0
IsRowBelow n r = IsKindBelow n r.kind
