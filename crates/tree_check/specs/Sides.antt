-- What a branch gets from one side of a split.
use Rattle.std.specs.Prelude.{ℕ, ◌<◌, Bool, not, [], ◌++◌, Option, Some, None, IfSome}
use Rattle.pc_common.specs.World.{Node}
use Rattle.pc_ground.specs.{Tree.{Tree, turned}, declared.version.Version.{Version, TheVariants.{One, Two}}, Refutes.{Branch, all_signed, subtree_at, asserted}}
use Rattle.tree_check.specs.declared.side.Side.{Side}

-- the positions that a part with this root asserts under a sign
abbrev pub positions_of : Option (Tree Node) → Bool → ℕ → Branch
positions_of None negated root = []
positions_of (Some s) negated root = all_signed negated (asserted s root)

abbrev pub positions_at : Tree Node → Bool → ℕ → Branch
positions_at t negated root = positions_of (subtree_at (turned negated t) root) negated root

-- the branch, with the negation of the side that was refuted before, where one was
abbrev pub with_denied : Tree Node → Branch → Bool → Option ℕ → Branch
with_denied t ps negated None = ps
with_denied t ps negated (Some root) = ps ++ positions_at t (not negated) root

-- the branch, with all that the side asserts
abbrev pub with_all : Tree Node → Branch → Side → Branch
with_all t ps side = with_denied t ps side.negated side.denied ++ positions_at t side.negated side.root

-- the left side of a split, and the right one, whose roots stand there
abbrev pub left_side : Bool → ℕ → Side
left_side negated left = record { negated = negated; root = left; denied = None }

abbrev pub right_side : Version → Bool → ℕ → ℕ → Side
right_side One negated left right = record { negated = negated; root = right; denied = None }
right_side Two negated left right = record { negated = negated; root = right; denied = Some left }

-- the side's roots are positions of a tree of this size
abbrev pub IsInside : ℕ → Side → Type 0
IsInside size side = (side.root < size) × IfSome side.denied (λ root. root < size)
