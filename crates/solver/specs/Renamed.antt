-- A tree over the numbers of nodes, read as one over the nodes.
use Rattle.std.specs.{Prelude.{ℕ, List, map, slice_get}, Option.{unwrap_or}}
use Rattle.pc_common.specs.{World.{Node}, Steps.{Leaf, cycle, path, absent, false_step}}
use Rattle.pc_ground.specs.{declared.row.Row.{Row}, Tree.{Tree, always, never, leaf, both, either}, Keys.{renamed, renamed_row}}

-- the node of a number; past the list, which no number of a tree is, any node
unfoldable pub node_at : List Node → ℕ → Node
node_at nodes k = unwrap_or (slice_get nodes k) (record { op = 0; core = 0; stage = 0 })

-- a tree with its nodes renamed
abbrev pub renamed_tree : {M N : Type 0} → (M → N) → Tree M → Tree N
renamed_tree f always = always
renamed_tree f never = never
renamed_tree f (leaf l) = leaf (renamed f l)
renamed_tree f (both a b) = both (renamed_tree f a) (renamed_tree f b)
renamed_tree f (either a b) = either (renamed_tree f a) (renamed_tree f b)

-- the tree over the nodes
abbrev pub tree_over : List Node → Tree ℕ → Tree Node
tree_over nodes t = renamed_tree (node_at nodes) t

abbrev pub rows_over : List Node → List (Row ℕ) → List (Row Node)
rows_over nodes rows = map (renamed_row (node_at nodes)) rows

-- a leaf with its nodes renamed
abbrev pub renamed_leaf : {M N : Type 0} → (M → N) → Leaf M → Leaf N
renamed_leaf f (cycle ks) = cycle (map f ks)
renamed_leaf f (path ks) = path (map f ks)
renamed_leaf f (absent k) = absent (f k)
renamed_leaf f false_step = false_step
