-- Rows whose nodes have numbers.
use Rattle.std.specs.Prelude.{ℕ, List}
use Rattle.pc_common.specs.World.{Node}
use Rattle.pc_ground.specs.declared.{literal.Literal.{Literal, TheVariants.{Node as a_node, Edge, NoNode, NoEdge}}, row.{Row.{Row}, RowKind.{RowKind}}}
use Rattle.pc_ground.specs.{declared.row.RowKind.TheVariants.{True, False, Lit, And, Or}, Numbers.{IsNumberOf}}

abbrev pub IsNumbered : List Node → Node → Type 0
IsNumbered nodes a = (k : ℕ) × IsNumberOf nodes k a

abbrev pub IsLiteralKnown : List Node → Literal Node → Type 0
IsLiteralKnown nodes (a_node a) = IsNumbered nodes a
IsLiteralKnown nodes (Edge a b) = IsNumbered nodes a × IsNumbered nodes b
IsLiteralKnown nodes (NoNode a) = IsNumbered nodes a
IsLiteralKnown nodes (NoEdge a b) = IsNumbered nodes a × IsNumbered nodes b

abbrev pub IsKindKnown : List Node → RowKind Node → Type 0
IsKindKnown nodes True = Unit {0}
IsKindKnown nodes False = Unit {0}
IsKindKnown nodes (Lit l) = IsLiteralKnown nodes l
IsKindKnown nodes And = Unit {0}
IsKindKnown nodes Or = Unit {0}

abbrev pub IsRowKnown : List Node → Row Node → Type 0
IsRowKnown nodes r = IsKindKnown nodes r.kind
