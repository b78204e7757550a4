-- A tree of And and Or over literals, its negation, its size and its truth in a world.
use Rattle.std.specs.Prelude.{ℕ, ◌+◌, Bool, true, false, not, ◌&&◌, ◌||◌}
use Rattle.pc_common.specs.World.{Node, World, has_node, has_edge}
use Rattle.pc_ground.specs.declared.literal.Literal.{Literal, TheVariants.{Node as a_node, Edge, NoNode, NoEdge}}

pub data Tree (N : Type 0) : Type 0 where
  always : Tree N
  never : Tree N
  leaf : Literal N → Tree N
  both : Tree N → Tree N → Tree N
  either : Tree N → Tree N → Tree N

-- true exactly where the literal is not
abbrev pub contrary : {N : Type 0} → Literal N → Literal N
contrary (a_node a) = NoNode a
contrary (Edge a b) = NoEdge a b
contrary (NoNode a) = a_node a
contrary (NoEdge a b) = Edge a b

-- And and Or, True and False change places, and each literal is its contrary
abbrev pub negation : {N : Type 0} → Tree N → Tree N
negation always = never
negation never = always
negation (leaf l) = leaf (contrary l)
negation (both a b) = either (negation a) (negation b)
negation (either a b) = both (negation a) (negation b)

-- the tree, or its negation
abbrev pub turned : {N : Type 0} → Bool → Tree N → Tree N
turned false t = t
turned true t = negation t

-- how many positions the tree has
abbrev pub size_of : {N : Type 0} → Tree N → ℕ
size_of always = 1
size_of never = 1
size_of (leaf l) = 1
size_of (both a b) = 1 + (size_of a + size_of b)
size_of (either a b) = 1 + (size_of a + size_of b)

abbrev pub literal_true : World Node → Literal Node → Bool
literal_true w (a_node a) = has_node w a
literal_true w (Edge a b) = has_edge w a b
literal_true w (NoNode a) = not (has_node w a)
literal_true w (NoEdge a b) = not (has_edge w a b)

abbrev pub tree_true : World Node → Tree Node → Bool
tree_true w always = true
tree_true w never = false
tree_true w (leaf l) = literal_true w l
tree_true w (both a b) = tree_true w a && tree_true w b
tree_true w (either a b) = tree_true w a || tree_true w b
