-- What joins the layers: laws of the definitions alone.
use Rattle.std.specs.{Prelude.{ℕ, ◌≡◌, Bool, false, not, List, [], None, map, IsTrue, Contains, ◌↔◌, ◌+◌, Some}, List.{list_all}}
use Rattle.pc_common.specs.{Case.{Case}, World.{Node, World, IsWorld, has_node, has_edge}, Steps.{Step}}
use Rattle.pc_case.specs.MicroOps.{AreMicroOps}
use Rattle.pc_syntax.specs.{declared.closed.Closed.{Closed}, Written.{WrittenModel}, Observable.{axioms_of, macros_of, satisfies, IsNodeOf}}
use Rattle.pc_syntax.specs.{Expansion.{expansion_of}, Closing.{closing_of}, NameFaults.{first_name_fault}, Closed.{PlainClosed, closed_true}}
use Rattle.pc_ground.specs.{declared.version.Version.{Version, TheVariants.{One}}, Tree.{Tree, negation, turned, size_of, tree_true}}
use Rattle.pc_ground.specs.{Rows.{rows_of, turned_rows}, Walks.{Walk}, PlainGround.{PlainGround, normal, simplified}, Unfolded.{all_of, unfolded}}
use Rattle.pc_ground.specs.{Folded.{IsFolded}, GroundTree.{ground_tree, closed_ground_tree}, Numbers.{nodes_of_tree, numbered, AreDistinct}}
use Rattle.pc_ground.specs.{Stages.{plain_axioms, AxiomsWithin}, CutWorlds.{cut_to}, Refutes.{subtree_at, asserted, Signed, Branch, IsPartial, IsRefutation}}

-- a world satisfies a model exactly where the model's ground tree is true in it
abbrev pub TreeSaysModel : Type 0
TreeSaysModel = (m : WrittenModel) (c : Case) (w : World Node) → satisfies m c w ≡ tree_true w (ground_tree m c)

-- closed axioms are true in a world exactly where their ground tree is
abbrev pub TreeSaysClosed : Type 0
TreeSaysClosed =
    (c : Case) (axioms : List PlainClosed) (w : World Node)
    → list_all (closed_true c w []) axioms ≡ tree_true w (closed_ground_tree c axioms)

-- expansion keeps the ground tree of a model: expanded, its axioms have it, with no macro left to look up
abbrev pub ExpansionKeepsTree : Type 0
ExpansionKeepsTree =
    (m : WrittenModel) (c : Case)
    → normal (all_of (map (unfolded m.stages c [] []) (map (expansion_of (macros_of m)) (axioms_of m))))
    ≡ ground_tree m c

-- closing keeps the ground tree of a model without name faults: expanded and closed, its axioms have it
abbrev pub ClosingKeepsTree : Type 0
ClosingKeepsTree =
    (m : WrittenModel) (c : Case) → first_name_fault m ≡ None
    → closed_ground_tree c (map (λ a. closing_of m.stages [] (expansion_of (macros_of m) a)) (axioms_of m))
    ≡ ground_tree m c

-- a constant is left in a normal form only where it is the whole tree
abbrev pub NormalIsFolded : Type 0
NormalIsFolded = (g : PlainGround) → IsFolded (normal g)

-- folding constants first changes no normal form
abbrev pub NormalOfSimplified : Type 0
NormalOfSimplified = (g : PlainGround) → normal (simplified g) ≡ normal g

-- each node of closed axioms' ground tree is of the test, and of the stages that the axioms name
abbrev pub NodesAreNamed : Type 0
NodesAreNamed =
    (c : Case) (numbers : List ℕ) (axioms : List Closed) → AreMicroOps c.ops
    → AxiomsWithin numbers (plain_axioms axioms)
    → (a : Node) → Contains (nodes_of_tree (closed_ground_tree c (plain_axioms axioms))) a → IsNodeOf numbers c.ops a

-- two worlds that agree on the nodes of a tree's literals give the tree one truth
abbrev pub TruthIsOfLiterals : Type 0
TruthIsOfLiterals =
    (t : Tree Node) (w v : World Node)
    → ((a : Node) → Contains (nodes_of_tree t) a → has_node w a ≡ has_node v a)
    → ((a b : Node) → Contains (nodes_of_tree t) a → Contains (nodes_of_tree t) b → has_edge w a b ≡ has_edge v a b)
    → tree_true w t ≡ tree_true v t

-- a tree's truth is that in the world cut down to the nodes of its literals
abbrev pub CutKeepsTruth : Type 0
CutKeepsTruth = (t : Tree Node) (w : World Node) → tree_true w t ≡ tree_true (cut_to (nodes_of_tree t) w) t

-- a world cut down is a world
abbrev pub CutIsWorld : Type 0
CutIsWorld = (nodes : List Node) (w : World Node) → IsWorld w → IsWorld (cut_to nodes w)

-- a tree with a refutation is true in no world
abbrev pub RefutationIsSound : Type 0
RefutationIsSound =
    (v : Version) (t : Tree Node) (steps : List (Step Node)) → IsRefutation v t steps → (w : World Node) → IsWorld w
    → IsTrue (tree_true w t) → ⊥

-- in version 1 no position of an open branch has a sign
abbrev pub OneHasNoSign : Type 0
OneHasNoSign =
    (t : Tree Node) (steps : List (Step Node)) (opens : List Branch) → IsPartial One t steps opens
    → (ps : Branch) → Contains opens ps → (q : Signed) → Contains ps q → q.negated ≡ false

-- the negation of a tree is true exactly where the tree is not, and its rows are the tree's rows turned
abbrev pub NegationTurnsTruth : Type 0
NegationTurnsTruth = (w : World Node) (t : Tree Node) → tree_true w (negation t) ≡ not (tree_true w t)

abbrev pub NegationTurnsRows : Type 0
NegationTurnsRows = (n : Bool) (t : Tree Node) → rows_of (turned n t) ≡ turned_rows n (rows_of t)

-- the numbered nodes of a tree are the nodes of its literals, each once
abbrev pub NumberedListsNodes : Type 0
NumberedListsNodes = (t : Tree Node)
    → AreDistinct (numbered t) × ((a : Node) → Contains (nodes_of_tree t) a ↔ Contains (numbered t) a)

-- no rows spell two trees
abbrev pub RowsSpellOneTree : Type 0
RowsSpellOneTree = (s t : Tree Node) → rows_of s ≡ rows_of t → s ≡ t

-- the walk over the rows of a side comes to the positions that the side asserts
abbrev pub WalkIsAsserted : Type 0
WalkIsAsserted = (t : Tree Node) (p : ℕ) (s : Tree Node) → subtree_at t p ≡ Some s
    → Walk (rows_of t) (p + size_of s) p (asserted s p)
