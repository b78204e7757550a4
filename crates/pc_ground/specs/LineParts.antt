-- The text of a part of a line.
use Rattle.std.specs.Prelude.{List, ℕ}
use Rattle.pc_common.specs.Lines.{Names, node_text}
use Rattle.pc_ground.specs.{Keys.{key_node}, NodeForm.{IsNodeIn}, declared.line_part.LinePart.{LinePart, TheVariants.{Bytes, Node}}}

abbrev pub line_part_text : Names → LinePart → List ℕ
line_part_text names (Bytes bytes) = bytes.now
line_part_text names (Node key) = node_text names (key_node key)

-- a node is one of these names'
abbrev pub IsLinePartOf : Names → LinePart → Type 0
IsLinePartOf names (Bytes bytes) = Unit {0}
IsLinePartOf names (Node key) = IsNodeIn names (key_node key)
