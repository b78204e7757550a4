-- In which order the nodes of a tree are numbered: as first seen in preorder, an edge's first node before its second.
use Rattle.std.specs.{Prelude.{ℕ, ◌≡◌, List, [], ◌∷◌, ◌++◌, Some, slice_get, if◌then◌else◌}, List.{list_any}}
use Rattle.pc_common.specs.World.{Node, same_node}
use Rattle.pc_ground.specs.declared.literal.Literal.{Literal, TheVariants.{Node as a_node, Edge, NoNode, NoEdge}}
use Rattle.pc_ground.specs.Tree.{Tree, always, never, leaf, both, either}

abbrev pub nodes_of_literal : {N : Type 0} → Literal N → List N
nodes_of_literal (a_node a) = a ∷ []
nodes_of_literal (Edge a b) = a ∷ b ∷ []
nodes_of_literal (NoNode a) = a ∷ []
nodes_of_literal (NoEdge a b) = a ∷ b ∷ []

-- the nodes of the literals, in preorder, as often as they stand there
abbrev pub nodes_of_tree : {N : Type 0} → Tree N → List N
nodes_of_tree always = []
nodes_of_tree never = []
nodes_of_tree (leaf l) = nodes_of_literal l
nodes_of_tree (both a b) = nodes_of_tree a ++ nodes_of_tree b
nodes_of_tree (either a b) = nodes_of_tree a ++ nodes_of_tree b

-- those of xs that are not among the ones seen, each where it is first seen
abbrev pub first_seen : List Node → List Node → List Node
first_seen seen [] = []
first_seen seen (x ∷ xs) = if list_any (same_node x) seen then first_seen seen xs else x ∷ first_seen (x ∷ seen) xs

-- each node of the tree once, in the order of first sight
abbrev pub numbered : Tree Node → List Node
numbered t = first_seen [] (nodes_of_tree t)

-- the nodes with this one after them, where it is not among them
abbrev pub seen : List Node → Node → List Node
seen nodes a = if list_any (same_node a) nodes then nodes else nodes ++ a ∷ []

-- the node stands at k
abbrev pub IsNumberOf : List Node → ℕ → Node → Type 0
IsNumberOf nodes k a = slice_get nodes k ≡ Some a

abbrev pub AreDistinct : List Node → Type 0
AreDistinct nodes = (j k : ℕ) (a : Node) → IsNumberOf nodes j a → IsNumberOf nodes k a → j ≡ k
