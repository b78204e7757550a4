-- A consistent list of literals over numbers gives a graph over the nodes, whose world makes a tree true that the literals meet.
use Rattle.std.proofs.Common.{◌≡◌, ◌<◌, inl, inr, ℕ, Bool, true, false, List, [], ◌∷◌, Some, map, length, refl, sym, ap, ◌∙◌}
use Rattle.std.{proofs.lemmas.{List.Elements.{All-contains}, Option.{slice_get-get_or}, Bool.{and_from, or_left, or_right}}, specs.Prelude.{All, IsTrue, not}}
use Rattle.pc_common.specs.{World.{Node, Edge, World, IsWorld, has_node, has_edge, same_node}, Chain.{Leads, Chain, Acyclic}}
use Rattle.pc_common.{specs.Generated.{IsListed, HasEnds, IsGenerated}, proofs.{Nodes.{has_node_is, has_edge_is}, GeneratedWorlds.{generates, node_tells}}}
use Rattle.pc_ground.specs.{declared.literal.Literal.{Literal, TheVariants.{Node as a_node, Edge as an_edge, NoNode, NoEdge}}, Numbers.{AreDistinct}}
use Rattle.pc_ground.specs.{Tree.{Tree, always, never, leaf, both, either, tree_true}, Literals.{Joins, as_start, as_end, IsConsistent}}
use Rattle.order_graph.specs.Ways.{IsBelow}
use Rattle.solver.{specs.{Renamed.{tree_over, node_at}, Met.{IsMet}, Shown.{ArePresent, AreEdges}}, proofs.IsKnown.{number_named}}

-- two numbers of one node are one
pub one_number : (nodes : List Node) → AreDistinct nodes → (j k : ℕ) → j < length nodes → k < length nodes → node_at nodes j ≡ node_at nodes k → j ≡ k
one_number nodes distinct j k below_j below_k e =
    let other : Node = record { op = 0; core = 0; stage = 0 } in
    let at_j = slice_get-get_or nodes j other below_j in
    let at_k = slice_get-get_or nodes k other below_k in
    let same = sym (number_named nodes j _ at_j) ∙ e ∙ number_named nodes k _ at_k in
    distinct j k _ (at_j ∙ ap Some same) at_k

pub edge_below : (n : ℕ) (ls : List (Literal ℕ)) → All (IsBelow n) ls → (j k : ℕ) → Joins ls j k → (j < n) × (k < n)
edge_below n ls all j k h = All-contains (IsBelow n) ls (an_edge j k) all h

-- what a graph shows of the literals
pub record Shows (nodes : List Node) (ls : List (Literal ℕ)) (ns : List Node) (es : List Edge) : Type 0 where
  pub distinct : AreDistinct nodes
  pub below : All (IsBelow (length nodes)) ls
  pub consistent : IsConsistent ls
  pub present : ArePresent nodes ls (length nodes) ns
  pub edges : AreEdges nodes ls es

has_ends : (nodes : List Node) (ls : List (Literal ℕ)) (ns : List Node) (es : List Edge) → Shows nodes ls ns es → HasEnds ns es
has_ends nodes ls ns es s a b h =
    let e = (s.edges a b).0 h in
    let below = edge_below (length nodes) ls s.below e.0 e.1 e.2 in (
      (s.present a).1 (e.0, below.0, as_start e.1 e.2, e.3),
      (s.present b).1 (e.1, below.1, as_end e.0 e.2, e.4),
    )

-- a chain of the graph is one of the literals
chain_back : (nodes : List Node) (ls : List (Literal ℕ)) (ns : List Node) (es : List Edge) → Shows nodes ls ns es
    → (j : ℕ) → j < length nodes → (a : Node) (via : List Node) (b : Node) → node_at nodes j ≡ a → Leads (IsListed es) a via b
    → (k : ℕ) × (k < length nodes) × (node_at nodes k ≡ b) × Chain (Joins ls) j k
chain_back nodes ls ns es s j below a [] b at h =
    let e = (s.edges a b).0 h in
    let ends = edge_below (length nodes) ls s.below e.0 e.1 e.2 in
    let same : e.0 ≡ j = one_number nodes s.distinct e.0 j ends.0 below (e.3 ∙ sym at) in
    (e.1, ends.1, e.4, rw (← same) ([], e.2))
chain_back nodes ls ns es s j below a (x ∷ xs) b at h =
    let e = (s.edges a x).0 h.0 in
    let ends = edge_below (length nodes) ls s.below e.0 e.1 e.2 in
    let same : e.0 ≡ j = one_number nodes s.distinct e.0 j ends.0 below (e.3 ∙ sym at) in
    let rest = chain_back nodes ls ns es s e.1 ends.1 x xs b e.4 h.1 in
    (rest.0, rest.1, rest.2, rw (← same) (e.1 ∷ rest.3.0, (e.2, rest.3.1)))

first_number : (nodes : List Node) (ls : List (Literal ℕ)) (ns : List Node) (es : List Edge) → Shows nodes ls ns es
    → (a : Node) (via : List Node) (b : Node) → Leads (IsListed es) a via b → (j : ℕ) × (j < length nodes) × (node_at nodes j ≡ a)
first_number nodes ls ns es s a [] b h = (let e = (s.edges a b).0 h in (e.0, (edge_below (length nodes) ls s.below e.0 e.1 e.2).0, e.3))
first_number nodes ls ns es s a (x ∷ xs) b h = (let e = (s.edges a x).0 h.0 in (e.0, (edge_below (length nodes) ls s.below e.0 e.1 e.2).0, e.3))

acyclic : (nodes : List Node) (ls : List (Literal ℕ)) (ns : List Node) (es : List Edge) → Shows nodes ls ns es → Acyclic (IsListed es)
acyclic nodes ls ns es s a chain =
    let j = first_number nodes ls ns es s a chain.0 a chain.1 in
    let back = chain_back nodes ls ns es s j.0 j.1 a chain.0 a j.2 chain.1 in
    let same : back.0 ≡ j.0 = one_number nodes s.distinct back.0 j.0 back.1 j.1 (back.2 ∙ sym j.2) in
    s.consistent.acyclic j.0 (rw same at back.3)

chain_on : (nodes : List Node) (ls : List (Literal ℕ)) (ns : List Node) (es : List Edge) → Shows nodes ls ns es
    → (j : ℕ) (via : List ℕ) (k : ℕ) → Leads (Joins ls) j via k → Leads (IsListed es) (node_at nodes j) (map (node_at nodes) via) (node_at nodes k)
chain_on nodes ls ns es s j [] k h = (s.edges (node_at nodes j) (node_at nodes k)).1 (j, k, h, refl, refl)
chain_on nodes ls ns es s j (x ∷ xs) k h =
    ((s.edges (node_at nodes j) (node_at nodes x)).1 (j, x, h.0, refl, refl), chain_on nodes ls ns es s x xs k h.1)

-- the nodes of a tree's literals are numbers below n
abbrev pub AreBelow : ℕ → Tree ℕ → Type 0
AreBelow n (leaf l) = IsBelow n l
AreBelow n (both a b) = AreBelow n a × AreBelow n b
AreBelow n (either a b) = AreBelow n a × AreBelow n b
AreBelow n t = Unit {0}

pub not_true : (b : Bool) → (b ≡ true → ⊥) → not b ≡ true
not_true true f = absurd (f refl)
not_true false f = refl

met_true : (nodes : List Node) (ls : List (Literal ℕ)) (ns : List Node) (es : List Edge) (w : World Node) → Shows nodes ls ns es → IsGenerated ns es w
    → (t : Tree ℕ) → AreBelow (length nodes) t → IsMet ls t → tree_true w (tree_over nodes t) ≡ true
met_true nodes ls ns es w s g always below h = refl
met_true nodes ls ns es w s g never below h = absurd h
met_true nodes ls ns es w s g (leaf (a_node a)) below h =
    (has_node_is w (node_at nodes a)).1 (rw g.nodes_are ((s.present (node_at nodes a)).1 (a, below, h, refl)))
met_true nodes ls ns es w s g (leaf (an_edge a b)) below h =
    (has_edge_is w (node_at nodes a) (node_at nodes b)).1
    ((g.order_is (node_at nodes a) (node_at nodes b)).1 (map (node_at nodes) h.0, chain_on nodes ls ns es s a h.0 b h.1))
met_true nodes ls ns es w s g (leaf (NoNode a)) below h =
    not_true (has_node w (node_at nodes a)) (λ yes.
    let k = (s.present (node_at nodes a)).0 (rw g.nodes_are at ((has_node_is w (node_at nodes a)).0 yes)) in
    let same : k.0 ≡ a = one_number nodes s.distinct k.0 a k.1 below k.3 in
    h (rw same at k.2))
met_true nodes ls ns es w s g (leaf (NoEdge a b)) below h =
    not_true (has_edge w (node_at nodes a) (node_at nodes b)) (λ yes.
    let chain = (g.order_is (node_at nodes a) (node_at nodes b)).0 ((has_edge_is w (node_at nodes a) (node_at nodes b)).0 yes) in
    let back = chain_back nodes ls ns es s a below.0 (node_at nodes a) chain.0 (node_at nodes b) refl chain.1 in
    let same : back.0 ≡ b = one_number nodes s.distinct back.0 b back.1 below.1 back.2 in
    h (rw same at back.3))
met_true nodes ls ns es w s g (both a b) below h =
    and_from (tree_true w (tree_over nodes a)) (tree_true w (tree_over nodes b)) (met_true nodes ls ns es w s g a below.0 h.0)
    (met_true nodes ls ns es w s g b below.1 h.1)
met_true nodes ls ns es w s g (either a b) below (inl h) =
    or_left (tree_true w (tree_over nodes a)) (tree_true w (tree_over nodes b)) (met_true nodes ls ns es w s g a below.0 h)
met_true nodes ls ns es w s g (either a b) below (inr h) =
    or_right (tree_true w (tree_over nodes a)) (tree_true w (tree_over nodes b)) (met_true nodes ls ns es w s g b below.1 h)

-- the world of the graph, in which the tree is true
pub shown_world : (nodes : List Node) (ls : List (Literal ℕ)) (ns : List Node) (es : List Edge) (t : Tree ℕ) → Shows nodes ls ns es
    → AreBelow (length nodes) t → IsMet ls t
    → HasEnds ns es × ((w : World Node) × IsGenerated ns es w × IsWorld w × IsTrue (tree_true w (tree_over nodes t)))
shown_world nodes ls ns es t s below met =
    let ends = has_ends nodes ls ns es s in
    let made = generates same_node node_tells ns es ends (acyclic nodes ls ns es s) in
    (ends, (made.0, made.1, made.2, met_true nodes ls ns es made.0 s made.1 t below met))
