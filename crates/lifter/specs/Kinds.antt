-- Which constant a tree is, if it is one.
use Rattle.std.specs.Prelude.{ℕ, zero, suc, Bool, true, false}
use Rattle.pc_common.specs.World.{Node}
use Rattle.pc_ground.specs.Tree.{Tree, always, never, leaf, both, either}
use Rattle.lifter.specs.declared.kind.FactKind.{FactKind, TheVariants.{True, False, Open}}

abbrev pub kind_of : Tree Node → FactKind
kind_of always = True
kind_of never = False
kind_of (leaf l) = Open
kind_of (both a b) = Open
kind_of (either a b) = Open

-- of And (true) or Or (false) of two
abbrev pub joined_kind : Bool → FactKind → FactKind → FactKind
joined_kind true True k = k
joined_kind true False k = False
joined_kind true Open True = Open
joined_kind true Open False = False
joined_kind true Open Open = Open
joined_kind false False k = k
joined_kind false True k = True
joined_kind false Open True = True
joined_kind false Open False = Open
joined_kind false Open Open = Open

-- the constant that makes the whole the same constant, and the one without any effect
abbrev pub decider : Bool → FactKind
decider true = False
decider false = True

abbrev pub neutral : Bool → FactKind
neutral true = True
neutral false = False

-- of And (true) or Or (false) over so many members of which none is a constant
abbrev pub kind_over : Bool → ℕ → FactKind
kind_over all zero = neutral all
kind_over all (suc n) = Open
