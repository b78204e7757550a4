-- Consistent literals over nodes are true in the world that they generate.
use Rattle.std.{proofs.Common.{inl, inr, List, [], ◌∷◌, refl, subst}, specs.{Prelude.{Contains, IsTrue}, List.{flat_map}}}
use Rattle.pc_common.specs.{World.{Node, Edge, World, has_node, has_edge, same_node}, Chain.{Leads, Acyclic}, Generated.{IsListed, HasEnds, IsGenerated}}
use Rattle.pc_common.proofs.{Elements.{In, in_from_contains, contains_from_in, in_flat, from_flat}, Nodes.{has_node_is, has_edge_is}}
use Rattle.pc_common.proofs.GeneratedWorlds.{generates, node_tells}
use Rattle.pc_ground.specs.{declared.literal.Literal.{Literal, TheVariants.{Node as a_node, Edge as an_edge, NoNode, NoEdge}}, Tree.{literal_true}}
use Rattle.pc_ground.specs.Literals.{Joins, IsPresent, as_node, as_start, as_end, IsConsistent}
use Rattle.solver.{specs.Laws.{literal_nodes, literal_edges, ConsistentHaveWorld}, proofs.ShownWorld.{not_true}}

listed_present : (ls : List (Literal Node)) (a : Node) → IsPresent ls a → Contains (flat_map literal_nodes ls) a
listed_present ls a present = contains_from_in a (flat_map literal_nodes ls) (go present)
  where
    go : IsPresent ls a → In a (flat_map literal_nodes ls)
    go (as_node h) = in_flat literal_nodes (a_node a) a ls (in_from_contains (a_node a) ls h) (inl refl)
    go (as_start b h) = in_flat literal_nodes (an_edge a b) a ls (in_from_contains (an_edge a b) ls h) (inl refl)
    go (as_end b h) = in_flat literal_nodes (an_edge b a) a ls (in_from_contains (an_edge b a) ls h) (inr (inl refl))

present_listed : (ls : List (Literal Node)) (a : Node) → Contains (flat_map literal_nodes ls) a → IsPresent ls a
present_listed ls a h =
    let from = from_flat literal_nodes a ls (in_from_contains a (flat_map literal_nodes ls) h) in
    go from.0 from.1 from.2
  where
    go : (l : Literal Node) → In l ls → In a (literal_nodes l) → IsPresent ls a
    go (a_node b) i (inl e) = (let P : Node → Type 0 = IsPresent ls in subst P e (as_node (contains_from_in (a_node b) ls i)))
    go (a_node b) i (inr j) = absurd j
    go (an_edge b c) i (inl e) = (let P : Node → Type 0 = IsPresent ls in subst P e (as_start c (contains_from_in (an_edge b c) ls i)))
    go (an_edge b c) i (inr (inl e)) = (let P : Node → Type 0 = IsPresent ls in subst P e (as_end b (contains_from_in (an_edge b c) ls i)))
    go (an_edge b c) i (inr (inr j)) = absurd j
    go l i j = absurd j

listed_joins : (ls : List (Literal Node)) (a b : Node) → Joins ls a b → Contains (flat_map literal_edges ls) (a, b)
listed_joins ls a b h =
    contains_from_in (a, b) (flat_map literal_edges ls) (in_flat literal_edges (an_edge a b) (a, b) ls (in_from_contains (an_edge a b) ls h) (inl refl))

joins_listed : (ls : List (Literal Node)) (a b : Node) → Contains (flat_map literal_edges ls) (a, b) → Joins ls a b
joins_listed ls a b h =
    let from = from_flat literal_edges (a, b) ls (in_from_contains (a, b) (flat_map literal_edges ls) h) in
    go from.0 from.1 from.2
  where
    go : (l : Literal Node) → In l ls → In (a, b) (literal_edges l) → Joins ls a b
    go (an_edge c d) i (inl e) =
        let P : Edge → Type 0 = λ p. Joins ls p.0 p.1 in
        subst P e (contains_from_in (an_edge c d) ls i)
    go (an_edge c d) i (inr j) = absurd j
    go l i j = absurd j

leads_back : (ls : List (Literal Node)) (a : Node) (via : List Node) (b : Node) → Leads (IsListed (flat_map literal_edges ls)) a via b
    → Leads (Joins ls) a via b
leads_back ls a [] b h = joins_listed ls a b h
leads_back ls a (x ∷ xs) b h = (joins_listed ls a x h.0, leads_back ls x xs b h.1)

literal_met : (ls : List (Literal Node)) (w : World Node) → IsConsistent ls → IsGenerated (flat_map literal_nodes ls) (flat_map literal_edges ls) w
    → (l : Literal Node) → Contains ls l → IsTrue (literal_true w l)
literal_met ls w consistent g (a_node a) h =
    (has_node_is w a).1 (rw g.nodes_are (listed_present ls a (as_node h)))
literal_met ls w consistent g (an_edge a b) h = (has_edge_is w a b).1 ((g.order_is a b).1 ([], listed_joins ls a b h))
literal_met ls w consistent g (NoNode a) h =
    not_true (has_node w a) (λ yes.
    consistent.missing a h (present_listed ls a (rw g.nodes_are at ((has_node_is w a).0 yes))))
literal_met ls w consistent g (NoEdge a b) h =
    not_true (has_edge w a b) (λ yes.
    let chain = (g.order_is a b).0 ((has_edge_is w a b).0 yes) in
    consistent.apart a b h (chain.0, leads_back ls a chain.0 b chain.1))

pub consistent_world : ConsistentHaveWorld
consistent_world ls consistent =
    let ns = flat_map literal_nodes ls in
    let es = flat_map literal_edges ls in
    let ends : HasEnds ns es = λ a b h.
    (listed_present ls a (as_start b (joins_listed ls a b h)), listed_present ls b (as_end a (joins_listed ls a b h))) in
    let acyclic : Acyclic (IsListed es) = λ a chain. consistent.acyclic a (chain.0, leads_back ls a chain.0 a chain.1) in
    let made = generates same_node node_tells ns es ends acyclic in
    (made.0, made.1, made.2, literal_met ls made.0 consistent made.1)
