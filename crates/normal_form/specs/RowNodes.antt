-- The nodes of rows, and the numbers that they get one after the other.
use Rattle.std.specs.Prelude.{List, [], ◌∷◌}
use Rattle.pc_common.specs.World.{Node}
use Rattle.pc_ground.specs.{declared.row.{RowKind.{RowKind, TheVariants.{True, False, Lit, And, Or}}, Row.{Row}}, Numbers.{nodes_of_literal, seen}}

abbrev pub nodes_of_kind : {N : Type 0} → RowKind N → List N
nodes_of_kind True = []
nodes_of_kind False = []
nodes_of_kind (Lit l) = nodes_of_literal l
nodes_of_kind And = []
nodes_of_kind Or = []

abbrev pub nodes_of_row : {N : Type 0} → Row N → List N
nodes_of_row r = nodes_of_kind r.kind

-- the numbering after these nodes, from one to the next
abbrev pub numbering_after : List Node → List Node → List Node
numbering_after nodes [] = nodes
numbering_after nodes (a ∷ rest) = numbering_after (seen nodes a) rest
