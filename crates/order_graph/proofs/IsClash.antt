-- The clashes that one literal more has, and that a clash is an inconsistency.
use Rattle.std.{proofs.Common.{ℕ, List, [], ◌∷◌, ◌++◌, sym, subst}, specs.Prelude.{Contains}}
use Rattle.pc_common.specs.{Chain.{Leads, Chain}, Steps.{Leaf, cycle, path, absent}}
use Rattle.pc_ground.specs.declared.literal.Literal.{Literal, TheVariants.{Node, Edge, NoNode, NoEdge}}
use Rattle.pc_ground.specs.{Literals.{Joins, IsPresent, IsConsistent, as_node, as_start, as_end}, Refutes.{IsContradiction, a_cycle, a_path, an_absence}}
use Rattle.order_graph.specs.{Ways.{Follows, IsWay}, Clashes.{leaf_of}, Law.{ClashesRefute}}
use Rattle.order_graph.proofs.{Chains.{follows_map, follows_leads, follows_join, step_chain}, OneMore.{more, older, newest, joins_older, present_older}}

pub node_clash : (ls : List (Literal ℕ)) (p : ℕ) → Contains ls (NoNode p) → IsContradiction (more ls (Node p)) (absent p)
node_clash ls p h = an_absence p (older ls (Node p) (NoNode p) h) (as_node (newest ls (Node p)))

pub no_node_clash : (ls : List (Literal ℕ)) (p : ℕ) → IsPresent ls p → IsContradiction (more ls (NoNode p)) (absent p)
no_node_clash ls p h = an_absence p (newest ls (NoNode p)) (present_older ls (NoNode p) p h)

pub start_clash : (ls : List (Literal ℕ)) (p q : ℕ) → Contains ls (NoNode p) → IsContradiction (more ls (Edge p q)) (absent p)
start_clash ls p q h = an_absence p (older ls (Edge p q) (NoNode p) h) (as_start q (newest ls (Edge p q)))

pub end_clash : (ls : List (Literal ℕ)) (p q : ℕ) → Contains ls (NoNode q) → IsContradiction (more ls (Edge p q)) (absent q)
end_clash ls p q h = an_absence q (older ls (Edge p q) (NoNode q) h) (as_end p (newest ls (Edge p q)))

-- a way from q to p, and the edge from p to q
pub cycle_clash : (ls : List (Literal ℕ)) (p q : ℕ) (nodes : List ℕ) → IsWay (Joins ls) q nodes p
    → IsContradiction (more ls (Edge p q)) (cycle nodes)
cycle_clash ls p q [] w = absurd w
cycle_clash ls p q (x ∷ via) w =
    let ms : List (Literal ℕ) = more ls (Edge p q) in
    let round = follows_leads (Joins ms) q via p q (follows_map (Joins ls) (Joins ms) (joins_older ls (Edge p q)) q via p w.1) (newest ls (Edge p q)) in
    let P : ℕ → Type 0 = λ y. Leads (Joins ms) y via y in a_cycle x via (subst P (sym w.0) round)

-- a way with at least one step, of which the ends are denied
denied_way : (ms : List (Literal ℕ)) (x z : ℕ) (zs : List ℕ) (y : ℕ) → Follows (Joins ms) x (z ∷ zs) y → Contains ms (NoEdge x y)
    → IsContradiction ms (path (x ∷ z ∷ zs))
denied_way ms x z zs y f d =
    let c = step_chain (Joins ms) x z zs y f in
    let P : List ℕ → Type 0 = λ ws. IsContradiction ms (path (x ∷ ws)) in
    subst P (sym c.1) (a_path x c.0 y c.2 d)

pub no_edge_clash : (ls : List (Literal ℕ)) (p q : ℕ) (nodes : List ℕ) → IsConsistent ls → Chain (Joins ls) p q
    → IsWay (Joins ls) p nodes q → IsContradiction (more ls (NoEdge p q)) (path nodes)
no_edge_clash ls p q [] c chain w = absurd w
no_edge_clash ls p q (x ∷ []) c chain w = absurd (c.acyclic p (let P : ℕ → Type 0 = Chain (Joins ls) p in subst P (sym w.1) chain))
no_edge_clash ls p q (x ∷ z ∷ zs) c chain w =
    let ms : List (Literal ℕ) = more ls (NoEdge p q) in
    let f = follows_map (Joins ls) (Joins ms) (joins_older ls (NoEdge p q)) p (z ∷ zs) q w.1 in
    let P : ℕ → Type 0 = λ y. IsContradiction ms (path (y ∷ z ∷ zs)) in
    subst P (sym w.0) (denied_way ms p z zs q f (newest ls (NoEdge p q)))

-- a way to the start of the edge, and one from its end
pub path_clash : (ls : List (Literal ℕ)) (p q x y : ℕ) (before after : List ℕ) → Contains ls (NoEdge x y)
    → IsWay (Joins ls) x before p → IsWay (Joins ls) q after y → IsContradiction (more ls (Edge p q)) (path (before ++ after))
path_clash ls p q x y [] after d v w = absurd v
path_clash ls p q x y (a ∷ via) [] d v w = absurd w
path_clash ls p q x y (a ∷ via) (b ∷ rest) d v w =
    let ms : List (Literal ℕ) = more ls (Edge p q) in
    let up = joins_older ls (Edge p q) in
    let first = follows_map (Joins ls) (Joins ms) up x via p v.1 in
    let second = follows_map (Joins ls) (Joins ms) up q rest y w.1 in
    let P : ℕ → Type 0 = λ z. Follows (Joins ms) p (z ∷ rest) y in
    let on : Follows (Joins ms) p (b ∷ rest) y = subst P (sym w.0) (newest ls (Edge p q), second) in
    let whole = follows_join (Joins ms) x via p (b ∷ rest) y first on in
    let denied = older ls (Edge p q) (NoEdge x y) d in
    let Q : ℕ → Type 0 = λ z. IsContradiction ms (path (z ∷ (via ++ b ∷ rest))) in
    subst Q (sym v.0) (with_step ms x via b rest y whole denied)
  where
    with_step : (ms : List (Literal ℕ)) (x : ℕ) (via : List ℕ) (b : ℕ) (rest : List ℕ) (y : ℕ)
        → Follows (Joins ms) x (via ++ b ∷ rest) y → Contains ms (NoEdge x y) → IsContradiction ms (path (x ∷ (via ++ b ∷ rest)))
    with_step ms x [] b rest y f d = denied_way ms x b rest y f d
    with_step ms x (z ∷ zs) b rest y f d = denied_way ms x z (zs ++ b ∷ rest) y f d

pub contradiction_refutes : (ls : List (Literal ℕ)) (l : Leaf ℕ) → IsContradiction ls l → IsConsistent ls → ⊥
contradiction_refutes ls l (a_cycle a via leads) c = c.acyclic a (via, leads)
contradiction_refutes ls l (a_path a via b leads denied) c = c.apart a b denied (via, leads)
contradiction_refutes ls l (an_absence a denied present) c = c.missing a denied present

pub clashes_refute : ClashesRefute
clashes_refute ls k clash c = contradiction_refutes ls (leaf_of k) clash c
