-- What a part of a formula is while rows are written: a constant, which has none, or a tree, of which the last row
-- comes first.
use Rattle.std.specs.Prelude.{◌≡◌, true, false, List, [], ◌++◌, reverse}
use Rattle.pc_common.specs.World.{Node}
use Rattle.pc_ground.specs.{Tree.{Tree, always, never, leaf, both, either}, Rows.{rows_of}, declared.row.Row.{Row}}
use Rattle.normal_form.specs.declared.part.Part.{Part, TheVariants.{Constant, Rows}}

abbrev pub part_of : {N : Type 0} → Tree N → Part
part_of always = Constant true
part_of never = Constant false
part_of (leaf l) = Rows
part_of (both a b) = Rows
part_of (either a b) = Rows

-- the rows that are written for a part
abbrev pub backward : {N : Type 0} → Tree N → List (Row N)
backward always = []
backward never = []
backward (leaf l) = reverse (rows_of (leaf l))
backward (both a b) = reverse (rows_of (both a b))
backward (either a b) = reverse (rows_of (either a b))

-- the tree is written after what was there, and the part says what it is
abbrev pub IsWritten : List (Row Node) → List (Row Node) → Part → Tree Node → Type 0
IsWritten old new part t = (part ≡ part_of t) × (new ≡ old ++ backward t)
