-- Which nodes are listed, and what a line more makes of a graph.
use Rattle.std.proofs.Common.{◌≡◌, ◌⊎◌, inl, inr, true, false, is_some, List, [], ◌∷◌, ◌++◌, map, refl, sym, ◌∙◌, ap, subst, append_assoc}
use Rattle.std.proofs.lemmas.{List.{map_push, Elements.{Contains-push, Contains-push_cases, Contains-append_left}}, Map.Made.{is_some-lookup}}
use Rattle.std.specs.{Prelude.{⊤, Contains}, List.{list_any}, Map.{keys_of, lookup}}
use Rattle.indexmap.specs.IndexSet.{insert_key}
use Rattle.pc_common.specs.{World.{Node, Edge, same_node}, Lines.{node as node_line, edge as edge_line}, Generated.{IsListed}}
use Rattle.pc_common.proofs.{Elements.{any_holds, holds_any, in_from_contains, contains_from_in}, Bools.{true_or_false, not_both}}
use Rattle.pc_common.proofs.Nodes.{same_node-true, same_node-self}
use Rattle.pc_ground.{specs.{declared.node_key.NodeKey.{NodeKey}, Keys.{key_node}, Numbers.{seen}}, proofs.{Nodes.{key_eq, any_key}, KeyNumbers.{seen_key}}}
use Rattle.graph_text.specs.{Graphs.{graph_lines}, OpenGraphs.{IsOpen}}

among : (a : Node) (ns : List Node) → list_any (same_node a) ns ≡ true → Contains ns a
among a ns h =
    let (b, inside, same) = any_holds (same_node a) ns h in
    let P : Node → Type 0 = λ x. Contains ns x in
    subst P (sym (same_node-true a b same)) (contains_from_in b ns inside)

from_among : (a : Node) (ns : List Node) → Contains ns a → list_any (same_node a) ns ≡ true
from_among a ns h = holds_any (same_node a) a ns (in_from_contains a ns h) (same_node-self a)

-- a key of the map is a node listed
pub is_listed : (es : List (NodeKey × ⊤)) (nodes : List Node) (edges : List Edge) (k : NodeKey) → IsOpen (keys_of es) nodes edges
    → is_some (lookup (key_eq k) es) ≡ true → Contains nodes (key_node k)
is_listed es nodes edges k h e =
    (h.listed (key_node k)).0
    (among (key_node k) (map key_node (keys_of es)) (sym (any_key k (keys_of es)) ∙ sym (is_some-lookup (key_eq k) es) ∙ e))

-- any other key is none
pub not_listed : (es : List (NodeKey × ⊤)) (nodes : List Node) (edges : List Edge) (k : NodeKey) → IsOpen (keys_of es) nodes edges
    → is_some (lookup (key_eq k) es) ≡ false → Contains nodes (key_node k) → ⊥
not_listed es nodes edges k h e inside =
    not_both (list_any (key_eq k) (keys_of es))
    (any_key k (keys_of es) ∙ from_among (key_node k) (map key_node (keys_of es)) ((h.listed (key_node k)).1 inside))
    (sym (is_some-lookup (key_eq k) es) ∙ e)

was_there : (ns : List Node) (b : Node) → list_any (same_node b) ns ≡ true → seen ns b ≡ ns
was_there ns b e = rw e refl

is_new : (ns : List Node) (b : Node) → list_any (same_node b) ns ≡ false → seen ns b ≡ ns ++ b ∷ []
is_new ns b e = rw e refl

from_seen : (ns : List Node) (b a : Node) → Contains (seen ns b) a → Contains ns a ⊎ (b ≡ a)
from_seen ns b a h =
    let P : List Node → Type 0 = λ xs. Contains xs a in
    elim (true_or_false (list_any (same_node b) ns)) [
      | inl e ↦ inl (subst P (was_there ns b e) h)
      | inr e ↦ Contains-push_cases ns b a (subst P (is_new ns b e) h)
    ]

was_seen : (ns : List Node) (b a : Node) → Contains ns a → Contains (seen ns b) a
was_seen ns b a h =
    let P : List Node → Type 0 = λ xs. Contains xs a in
    elim (true_or_false (list_any (same_node b) ns)) [
      | inl e ↦ subst P (sym (was_there ns b e)) h
      | inr e ↦ subst P (sym (is_new ns b e)) (Contains-append_left ns (b ∷ []) a h)
    ]

is_seen : (ns : List Node) (b : Node) → Contains (seen ns b) b
is_seen ns b =
    let P : List Node → Type 0 = λ xs. Contains xs b in
    elim (true_or_false (list_any (same_node b) ns)) [
      | inl e ↦ subst P (sym (was_there ns b e)) (among b ns e)
      | inr e ↦ subst P (sym (is_new ns b e)) (Contains-push ns b)
    ]

-- with one node more
pub open_node : (keys : List NodeKey) (nodes : List Node) (edges : List Edge) (k : NodeKey) → IsOpen keys nodes edges
    → IsOpen (insert_key key_eq keys k) (nodes ++ key_node k ∷ []) edges
open_node keys nodes edges k h = record {
  listed = λ a. (forth a, back a);
  ends = λ a b e. (let inside = h.ends a b
      e in (Contains-append_left nodes (key_node k ∷ []) a inside.0, Contains-append_left nodes (key_node k ∷ []) b inside.1));
}
  where
    forth : (a : Node) → Contains (map key_node (insert_key key_eq keys k)) a → Contains (nodes ++ key_node k ∷ []) a
    forth a c =
        let P : List Node → Type 0 = λ ns. Contains ns a in
        let Q : Node → Type 0 = λ x. Contains (nodes ++ key_node k ∷ []) x in
        elim (from_seen (map key_node keys) (key_node k) a (subst P (seen_key keys k) c)) [
          | inl old ↦ Contains-append_left nodes (key_node k ∷ []) a ((h.listed a).0 old)
          | inr e ↦ subst Q e (Contains-push nodes (key_node k))
        ]

    back : (a : Node) → Contains (nodes ++ key_node k ∷ []) a → Contains (map key_node (insert_key key_eq keys k)) a
    back a c =
        let P : List Node → Type 0 = λ ns. Contains ns a in
        let Q : Node → Type 0 = λ x. Contains (seen (map key_node keys) (key_node k)) x in
        subst P (sym (seen_key keys k))
        (elim (Contains-push_cases nodes (key_node k) a c) [
          | inl old ↦ was_seen (map key_node keys) (key_node k) a ((h.listed a).1 old)
          | inr e ↦ subst Q e (is_seen (map key_node keys) (key_node k))
        ])

-- with one edge more between nodes listed
pub open_edge : (keys : List NodeKey) (nodes : List Node) (edges : List Edge) (a b : Node) → IsOpen keys nodes edges
    → Contains nodes a → Contains nodes b → IsOpen keys nodes (edges ++ (a, b) ∷ [])
open_edge keys nodes edges a b h from to = record {
  listed = h.listed;
  ends = λ x y e. both x y (Contains-push_cases edges (a, b) (x, y) e);
}
  where
    both : (x y : Node) → IsListed edges x y ⊎ ((◌≡◌ {A = Edge}) (a, b) (x, y)) → Contains nodes x × Contains nodes y
    both x y (inl old) = h.ends x y old
    both x y (inr e) =
        let P : Node → Type 0 = λ z. Contains nodes z in
        (subst P (ap (λ p. p.0) e) from, subst P (ap (λ p. p.1) e) to)

pub edge_put : (nodes : List Node) (edges : List Edge) (a b : Node)
    → graph_lines nodes (edges ++ (a, b) ∷ []) ≡ graph_lines nodes edges ++ edge_line a b ∷ []
edge_put nodes edges a b =
    ap (λ ls. map node_line nodes ++ ls) (map_push (λ (e : Edge). edge_line e.0 e.1) edges (a, b))
    ∙ sym (append_assoc (map node_line nodes) (map (λ (e : Edge). edge_line e.0 e.1) edges) (edge_line a b ∷ []))
