-- The tree of a formula by those of its parts.
use Rattle.std.proofs.Common.{◌≡◌, Bool, true, false, not, List, [], ◌∷◌, ◌++◌, map, refl, sym, ◌∙◌, ap}
use Rattle.pc_common.specs.{Case.{Case}, World.{Node}}
use Rattle.pc_syntax.specs.{declared.{term.Sort.{Sort}, closed_term.{ClosedNode.{ClosedNode}, ClosedEdge.{ClosedEdge}}}, Truth.{Meaning, range_of}}
use Rattle.pc_syntax.specs.Closed.{PlainClosed, closed_not, closed_and, closed_or, closed_implies, closed_forall, closed_exists, closed_nodes, closed_edges, closed_node}
use Rattle.pc_ground.specs.{Tree.{Tree}, PlainGround.{PlainGround, conjoined, disjoined}, Unfolded.{all_of, some_of, node_said, edge_said, closed_unfolded}}
use Rattle.lifted_facts.specs.PlainFacts.{said}
use Rattle.lifter.specs.Trees.{signed_tree, said_tree, joined_tree, joined_trees, bodies, node_tree, edge_tree, fact_tree}

-- And over a list, and Or over one, under a sign
pub over_all : {X : Type 0} (plus : Bool) (f : X → PlainGround) (xs : List X)
    → signed_tree plus (all_of (map f xs)) ≡ joined_trees plus (map (λ x. signed_tree plus (f x)) xs)
over_all true f [] = refl
over_all false f [] = refl
over_all true f (x ∷ xs) = ap (conjoined (signed_tree true (f x))) (over_all true f xs)
over_all false f (x ∷ xs) = ap (disjoined (signed_tree false (f x))) (over_all false f xs)

pub over_some : {X : Type 0} (plus : Bool) (f : X → PlainGround) (xs : List X)
    → signed_tree plus (some_of (map f xs)) ≡ joined_trees (not plus) (map (λ x. signed_tree plus (f x)) xs)
over_some true f [] = refl
over_some false f [] = refl
over_some true f (x ∷ xs) = ap (disjoined (signed_tree true (f x))) (over_some true f xs)
over_some false f (x ∷ xs) = ap (conjoined (signed_tree false (f x))) (over_some false f xs)

module _ (c : Case) (slots : List Meaning) where
  pub not_tree : (plus : Bool) (p : PlainClosed) → said_tree c plus (closed_not p) slots ≡ said_tree c (not plus) p slots
  not_tree true p = refl
  not_tree false p = refl

  pub and_tree : (plus : Bool) (p q : PlainClosed)
      → said_tree c plus (closed_and p q) slots ≡ joined_tree plus (said_tree c plus p slots) (said_tree c plus q slots)
  and_tree true p q = refl
  and_tree false p q = refl

  pub or_tree : (plus : Bool) (p q : PlainClosed)
      → said_tree c plus (closed_or p q) slots ≡ joined_tree (not plus) (said_tree c plus p slots) (said_tree c plus q slots)
  or_tree true p q = refl
  or_tree false p q = refl

  pub implies_tree : (plus : Bool) (p q : PlainClosed)
      → said_tree c plus (closed_implies p q) slots ≡ joined_tree (not plus) (said_tree c (not plus) p slots) (said_tree c plus q slots)
  implies_tree true p q = refl
  implies_tree false p q = refl

  pub forall_tree : (plus : Bool) (sort : Sort) (p : PlainClosed)
      → said_tree c plus (closed_forall sort p) slots ≡ joined_trees plus (bodies c plus sort p slots 0)
  forall_tree plus sort p = over_all plus (λ v. closed_unfolded c (slots ++ v ∷ []) p) (range_of c sort)

  pub exists_tree : (plus : Bool) (sort : Sort) (p : PlainClosed)
      → said_tree c plus (closed_exists sort p) slots ≡ joined_trees (not plus) (bodies c plus sort p slots 0)
  exists_tree plus sort p = over_some plus (λ v. closed_unfolded c (slots ++ v ∷ []) p) (range_of c sort)

  pub nodes_tree : (plus : Bool) (ts : List ClosedNode) → said_tree c plus (closed_nodes ts) slots ≡ joined_trees plus (map (node_tree c plus slots) ts)
  nodes_tree plus ts = over_all plus (λ (t : ClosedNode). node_said (closed_node c slots t)) ts

  pub edges_tree : (plus : Bool) (ts : List ClosedEdge) → said_tree c plus (closed_edges ts) slots ≡ joined_trees plus (map (edge_tree c plus slots) ts)
  edges_tree plus ts = over_all plus (λ (t : ClosedEdge). edge_said (closed_node c slots t.from) (closed_node c slots t.to)) ts

  -- at its start 0 a fact is its formula
  pub start_tree : (plus : Bool) (p : PlainClosed) → fact_tree c (said plus p slots 0) ≡ said_tree c plus p slots
  start_tree true (closed_exists sort p) = sym (exists_tree true sort p)
  start_tree false (closed_forall sort p) = sym (forall_tree false sort p)
  start_tree false (closed_nodes ts) = sym (nodes_tree false ts)
  start_tree false (closed_edges ts) = sym (edges_tree false ts)
  start_tree true p = refl
  start_tree false p = refl

  -- the same of a formula that is known to have this form
  tree_as : (plus : Bool) (f g : PlainClosed) (t : Tree Node) → f ≡ g → said_tree c plus g slots ≡ t → said_tree c plus f slots ≡ t
  tree_as plus f g t e h = ap (λ x. said_tree c plus x slots) e ∙ h

  pub not_of : (plus : Bool) (f p : PlainClosed) → f ≡ closed_not p → said_tree c plus f slots ≡ said_tree c (not plus) p slots
  not_of plus f p e = tree_as plus f (closed_not p) (said_tree c (not plus) p slots) e (not_tree plus p)

  pub and_of : (plus : Bool) (f p q : PlainClosed) → f ≡ closed_and p q
      → said_tree c plus f slots ≡ joined_tree plus (said_tree c plus p slots) (said_tree c plus q slots)
  and_of plus f p q e = tree_as plus f (closed_and p q) (joined_tree plus (said_tree c plus p slots) (said_tree c plus q slots)) e (and_tree plus p q)

  pub or_of : (plus : Bool) (f p q : PlainClosed) → f ≡ closed_or p q
      → said_tree c plus f slots ≡ joined_tree (not plus) (said_tree c plus p slots) (said_tree c plus q slots)
  or_of plus f p q e = tree_as plus f (closed_or p q) (joined_tree (not plus) (said_tree c plus p slots) (said_tree c plus q slots)) e (or_tree plus p q)

  pub implies_of : (plus : Bool) (f p q : PlainClosed) → f ≡ closed_implies p q
      → said_tree c plus f slots ≡ joined_tree (not plus) (said_tree c (not plus) p slots) (said_tree c plus q slots)
  implies_of plus f p q e = tree_as plus f (closed_implies p q) (joined_tree (not plus) (said_tree c (not plus) p slots) (said_tree c plus q slots))
      e (implies_tree plus p q)

  pub forall_of : (plus : Bool) (f : PlainClosed) (sort : Sort) (p : PlainClosed) → f ≡ closed_forall sort p
      → said_tree c plus f slots ≡ joined_trees plus (bodies c plus sort p slots 0)
  forall_of plus f sort p e = tree_as plus f (closed_forall sort p) (joined_trees plus (bodies c plus sort p slots 0)) e (forall_tree plus sort p)

  pub exists_of : (plus : Bool) (f : PlainClosed) (sort : Sort) (p : PlainClosed) → f ≡ closed_exists sort p
      → said_tree c plus f slots ≡ joined_trees (not plus) (bodies c plus sort p slots 0)
  exists_of plus f sort p e = tree_as plus f (closed_exists sort p) (joined_trees (not plus) (bodies c plus sort p slots 0)) e (exists_tree plus sort p)
