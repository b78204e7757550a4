-- A tree's truth in a world is that in the world cut down to the nodes of its literals.
use Rattle.std.proofs.{Common.{◌≡◌, inl, inr, Bool, true, false, not, ◌&&◌, ◌||◌, List, [], ◌∷◌, ◌++◌, refl, sym, ◌∙◌, ap}, lemmas.Bool.{and_from}}
use Rattle.std.specs.{Prelude.{Contains, filter}, List.{list_any}}
use Rattle.pc_common.specs.World.{Node, Edge, World, has_node, has_edge, same_node, same_edge, IsWorld}
use Rattle.pc_common.proofs.Elements.{In, in_from_contains, contains_from_in, in_front, in_back, holds_any, in_filter, from_filter}
use Rattle.pc_common.proofs.{Nodes.{same_node-true, same_node-self, same_edge-true}, Bools.{true_or_false, and_first, and_second}}
use Rattle.pc_ground.specs.declared.literal.Literal.{Literal, TheVariants.{Node as a_node, Edge as an_edge, NoNode, NoEdge}}
use Rattle.pc_ground.specs.{Tree.{Tree, always, never, leaf, both, either, literal_true, tree_true}, Numbers.{nodes_of_literal, nodes_of_tree}}
use Rattle.pc_ground.specs.CutWorlds.{is_among, cut_to}

-- by recursion over the nodes
abbrev Agree : List Node → World Node → World Node → Type 0
Agree nodes w v = ((a : Node) → In a nodes → has_node w a ≡ has_node v a) × ((a b : Node) → In a nodes → In b nodes → has_edge w a b ≡ has_edge v a b)

literal_agrees : (l : Literal Node) (w v : World Node) → Agree (nodes_of_literal l) w v → literal_true w l ≡ literal_true v l
literal_agrees (a_node a) w v h = h.0 a (inl refl)
literal_agrees (an_edge a b) w v h = h.1 a b (inl refl) (inr (inl refl))
literal_agrees (NoNode a) w v h = ap not (h.0 a (inl refl))
literal_agrees (NoEdge a b) w v h = ap not (h.1 a b (inl refl) (inr (inl refl)))

first_agree : (xs ys : List Node) (w v : World Node) → Agree (xs ++ ys) w v → Agree xs w v
first_agree xs ys w v h = ((λ a i. h.0 a (in_front a xs ys i)), (λ a b i j. h.1 a b (in_front a xs ys i) (in_front b xs ys j)))

second_agree : (xs ys : List Node) (w v : World Node) → Agree (xs ++ ys) w v → Agree ys w v
second_agree xs ys w v h = ((λ a i. h.0 a (in_back a xs ys i)), (λ a b i j. h.1 a b (in_back a xs ys i) (in_back b xs ys j)))

agrees : (t : Tree Node) (w v : World Node) → Agree (nodes_of_tree t) w v → tree_true w t ≡ tree_true v t
agrees always w v h = refl
agrees never w v h = refl
agrees (leaf l) w v h = literal_agrees l w v h
agrees (both a b) w v h =
    λ i. agrees a w v (first_agree (nodes_of_tree a) (nodes_of_tree b) w v h) i && agrees b w v (second_agree (nodes_of_tree a) (nodes_of_tree b) w v h) i
agrees (either a b) w v h =
    λ i. agrees a w v (first_agree (nodes_of_tree a) (nodes_of_tree b) w v h) i || agrees b w v (second_agree (nodes_of_tree a) (nodes_of_tree b) w v h) i

pub truth_of_literals : (t : Tree Node) (w v : World Node)
    → ((a : Node) → Contains (nodes_of_tree t) a → has_node w a ≡ has_node v a)
    → ((a b : Node) → Contains (nodes_of_tree t) a → Contains (nodes_of_tree t) b → has_edge w a b ≡ has_edge v a b)
    → tree_true w t ≡ tree_true v t
truth_of_literals t w v nodes edges =
    agrees t w v (
      (λ a i. nodes a (contains_from_in a (nodes_of_tree t) i)),
      (λ a b i j. edges a b (contains_from_in a (nodes_of_tree t) i) (contains_from_in b (nodes_of_tree t) j)),
    )

-- a test that passes only where another does finds in the filtered list what it finds in the list
any_filtered : {X : Type 0} (p q : X → Bool) → ((x : X) → p x ≡ true → q x ≡ true) → (xs : List X) → list_any p xs ≡ list_any p (filter q xs)
any_filtered p q only [] = refl
any_filtered p q only (x ∷ xs) =
    elim (true_or_false (q x)) [
      | inl h ↦ rw h (ap (λ b. p x || b) (any_filtered p q only xs))
      | inr h ↦ rw (h, fails (p x) (λ passes. let t : false ≡ true = sym h ∙ only x passes in cc)) (any_filtered p q only xs)
    ]
  where
    fails : (b : Bool) → (b ≡ true → ⊥) → b ≡ false
    fails true f = absurd (f refl)
    fails false f = refl

among : (nodes : List Node) (a : Node) → In a nodes → is_among nodes a ≡ true
among nodes a i = holds_any (λ b. same_node b a) a nodes i (same_node-self a)

cut_node : (nodes : List Node) (w : World Node) (a : Node) → In a nodes → has_node w a ≡ has_node (cut_to nodes w) a
cut_node nodes w a i =
    any_filtered (λ b. same_node b a) (λ b. is_among nodes b)
    (λ b same. ap (is_among nodes) (same_node-true b a same) ∙ among nodes a i) w.nodes

cut_edge : (nodes : List Node) (w : World Node) (a b : Node) → In a nodes → In b nodes → has_edge w a b ≡ has_edge (cut_to nodes w) a b
cut_edge nodes w a b i j =
    any_filtered (λ e. same_edge e (a, b)) (λ e. is_among nodes e.0 && is_among nodes e.1)
    (λ e same. ap (λ (f : Edge). is_among nodes f.0 && is_among nodes f.1) (same_edge-true e (a, b) same)
    ∙ and_from (is_among nodes a) (is_among nodes b) (among nodes a i) (among nodes b j)) w.order

pub cut_keeps : (t : Tree Node) (w : World Node) → tree_true w t ≡ tree_true (cut_to (nodes_of_tree t) w) t
cut_keeps t w = agrees t w (cut_to (nodes_of_tree t) w) (cut_node (nodes_of_tree t) w, cut_edge (nodes_of_tree t) w)

-- whether both ends are among the nodes
abbrev both_among : List Node → Edge → Bool
both_among nodes e = is_among nodes e.0 && is_among nodes e.1

kept : (nodes : List Node) (w : World Node) (a b : Node) → Contains (filter (both_among nodes) w.order) (a, b)
    → Contains w.order (a, b) × (both_among nodes (a, b) ≡ true)
kept nodes w a b e =
    let r = from_filter (both_among nodes) (a, b) w.order (in_from_contains (a, b) (filter (both_among nodes) w.order) e) in
    (contains_from_in (a, b) w.order r.0, r.1)

pub cut_world : (nodes : List Node) (w : World Node) → IsWorld w → IsWorld (cut_to nodes w)
cut_world nodes w h = record {
  ends = λ a b e.
      let r = kept nodes w a b e in
      let ends = h.ends a b r.0 in (
        contains_from_in a (filter (is_among nodes) w.nodes)
            (in_filter (is_among nodes) a w.nodes (in_from_contains a w.nodes ends.0) (and_first (is_among nodes a) (is_among nodes b) r.1)),
        contains_from_in b (filter (is_among nodes) w.nodes)
            (in_filter (is_among nodes) b w.nodes (in_from_contains b w.nodes ends.1) (and_second (is_among nodes a) (is_among nodes b) r.1)),
      );
  irreflexive = λ a e. h.irreflexive a (kept nodes w a a e).0;
  transitive = λ a b c e f.
      let r = kept nodes w a b e in
      let s = kept nodes w b c f in
      contains_from_in (a, c) (filter (both_among nodes) w.order)
      (in_filter (both_among nodes) (a, c) w.order (in_from_contains (a, c) w.order (h.transitive a b c r.0 s.0))
      (and_from (is_among nodes a) (is_among nodes c) (and_first (is_among nodes a) (is_among nodes b) r.1)
      (and_second (is_among nodes b) (is_among nodes c) s.1)));
}
