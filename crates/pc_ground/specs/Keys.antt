-- What the code's node keys are as plain nodes, in literals and in rows.
use Rattle.pc_common.specs.World.{Node}
use Rattle.pc_ground.specs.declared.{node_key.NodeKey.{NodeKey}, literal.Literal.{Literal, TheVariants.{Node as a_node, Edge, NoNode, NoEdge}}}
use Rattle.pc_ground.specs.declared.row.{RowKind.{RowKind, TheVariants.{True, False, Lit, And, Or}}, Row.{Row}}

abbrev pub key_node : NodeKey → Node
key_node k = record { op = k.op; core = k.core; stage = k.stage }

-- a literal with its nodes renamed
abbrev pub renamed : {M N : Type 0} → (M → N) → Literal M → Literal N
renamed f (a_node a) = a_node (f a)
renamed f (Edge a b) = Edge (f a) (f b)
renamed f (NoNode a) = NoNode (f a)
renamed f (NoEdge a b) = NoEdge (f a) (f b)

abbrev pub renamed_kind : {M N : Type 0} → (M → N) → RowKind M → RowKind N
renamed_kind f True = True
renamed_kind f False = False
renamed_kind f (Lit l) = Lit (renamed f l)
renamed_kind f And = And
renamed_kind f Or = Or

abbrev pub renamed_row : {M N : Type 0} → (M → N) → Row M → Row N
renamed_row f r = record { kind = renamed_kind f r.kind; skip = r.skip }

abbrev pub literal_node : Literal NodeKey → Literal Node
literal_node l = renamed key_node l

abbrev pub row_node : Row NodeKey → Row Node
row_node r = renamed_row key_node r
