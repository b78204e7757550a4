-- What a fact is in the ground tree: its formula under its sign, unfolded in a case, with the constants folded.
use Rattle.std.specs.Prelude.{ℕ, Bool, true, false, List, [], ◌∷◌, ◌++◌, map, drop}
use Rattle.pc_common.specs.{Case.{Case}, World.{Node}}
use Rattle.pc_syntax.specs.{declared.{term.Sort.{Sort}, closed_term.{ClosedNode.{ClosedNode}, ClosedEdge.{ClosedEdge}}}, Truth.{Meaning, range_of}}
use Rattle.pc_syntax.specs.Closed.{PlainClosed, closed_forall, closed_exists, closed_nodes, closed_edges, closed_node}
use Rattle.pc_ground.specs.{Tree.{Tree, always, never}, PlainGround.{PlainGround, pushed, conjoined, disjoined, folded}}
use Rattle.pc_ground.specs.Unfolded.{node_said, edge_said, closed_unfolded}
use Rattle.lifted_facts.specs.PlainFacts.{PlainFact, said, one_node, one_edge}

-- the tree of a ground formula under a sign
abbrev pub signed_tree : Bool → PlainGround → Tree Node
signed_tree plus g = folded (pushed plus g)

-- that of a closed formula, where the slots have these values
abbrev pub said_tree : Case → Bool → PlainClosed → List Meaning → Tree Node
said_tree c plus p slots = signed_tree plus (closed_unfolded c slots p)

-- And (true) or Or (false) of two, with constants folded
abbrev pub joined_tree : Bool → Tree Node → Tree Node → Tree Node
joined_tree true t u = conjoined t u
joined_tree false t u = disjoined t u

-- And (true) or Or (false) over all, from the first on
abbrev pub joined_trees : Bool → List (Tree Node) → Tree Node
joined_trees true [] = always
joined_trees false [] = never
joined_trees all (t ∷ ts) = joined_tree all t (joined_trees all ts)

-- the body of a quantifier at each value of its range, from a place on
abbrev pub bodies : Case → Bool → Sort → PlainClosed → List Meaning → ℕ → List (Tree Node)
bodies c plus sort p slots s = map (λ v. said_tree c plus p (slots ++ v ∷ [])) (drop s (range_of c sort))

-- one node and one edge
abbrev pub node_tree : Case → Bool → List Meaning → ClosedNode → Tree Node
node_tree c plus slots t = signed_tree plus (node_said (closed_node c slots t))

abbrev pub edge_tree : Case → Bool → List Meaning → ClosedEdge → Tree Node
edge_tree c plus slots t = signed_tree plus (edge_said (closed_node c slots t.from) (closed_node c slots t.to))

-- a fact of some member of a range or list is Or over those from its start on; any other is its formula's
abbrev pub fact_tree : Case → PlainFact → Tree Node
fact_tree c (said true (closed_exists sort p) slots s) = joined_trees false (bodies c true sort p slots s)
fact_tree c (said false (closed_forall sort p) slots s) = joined_trees false (bodies c false sort p slots s)
fact_tree c (said false (closed_nodes ts) slots s) = joined_trees false (map (node_tree c false slots) (drop s ts))
fact_tree c (said false (closed_edges ts) slots s) = joined_trees false (map (edge_tree c false slots) (drop s ts))
fact_tree c (said plus p slots s) = said_tree c plus p slots
fact_tree c (one_node plus a) = signed_tree plus (node_said a)
fact_tree c (one_edge plus a b) = signed_tree plus (edge_said a b)
