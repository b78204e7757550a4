-- Nodes and edges are equal exactly where their tests say so, and a world has them exactly where its tests do.
use Rattle.std.{proofs.Common.{◌≡◌, ℕ, true, ◌&&◌, refl, ◌∙◌, ap, subst, nat_eq, eq-eqb, eqb-true}, specs.Prelude.{IsTrue, Contains, ◌↔◌}}
use Rattle.pc_common.specs.World.{Node, Edge, World, same_node, same_edge, has_node, has_edge}
use Rattle.pc_common.proofs.{Elements.{In, in_from_contains, contains_from_in, any_holds, holds_any}, Bools.{and_first, and_second}}

abbrev node_with : ℕ → ℕ → ℕ → Node
node_with o c s = record { op = o; core = c; stage = s }

pub node_parts : (a b : Node) → a.op ≡ b.op → a.core ≡ b.core → a.stage ≡ b.stage → a ≡ b
node_parts a b o c s = ap (λ x. node_with x a.core a.stage) o ∙ ap (λ x. node_with b.op x a.stage) c ∙ ap (λ x. node_with b.op b.core x) s

pub same_node-true : (a b : Node) → same_node a b ≡ true → a ≡ b
same_node-true a b e =
    let ops = and_first (nat_eq a.op b.op && nat_eq a.core b.core) (nat_eq a.stage b.stage) e in
    node_parts a b
    (eqb-true a.op b.op (and_first (nat_eq a.op b.op) (nat_eq a.core b.core) ops))
    (eqb-true a.core b.core (and_second (nat_eq a.op b.op) (nat_eq a.core b.core) ops))
    (eqb-true a.stage b.stage (and_second (nat_eq a.op b.op && nat_eq a.core b.core) (nat_eq a.stage b.stage) e))

pub same_node-self : (a : Node) → same_node a a ≡ true
same_node-self a = rw (eq-eqb a.op a.op refl, eq-eqb a.core a.core refl, eq-eqb a.stage a.stage refl) refl

pub same_edge-true : (e f : Edge) → same_edge e f ≡ true → e ≡ f
same_edge-true e f h =
    ap (λ x. (x, e.1)) (same_node-true e.0 f.0 (and_first (same_node e.0 f.0) (same_node e.1 f.1) h)) ∙
    ap (λ x. (f.0, x)) (same_node-true e.1 f.1 (and_second (same_node e.0 f.0) (same_node e.1 f.1) h))

pub same_edge-self : (e : Edge) → same_edge e e ≡ true
same_edge-self e = rw (same_node-self e.0) (same_node-self e.1)

-- the test of a node says that the world has it
pub has_node_is : (w : World Node) (a : Node) → IsTrue (has_node w a) ↔ Contains w.nodes a
has_node_is w a = (
  (λ h.
      let r = any_holds (λ b. same_node b a) w.nodes h in
      let P : Node → Type 0 = λ b. In b w.nodes in
      contains_from_in a w.nodes (subst P (same_node-true r.0 a r.2) r.1)),
  (λ h. holds_any (λ b. same_node b a) a w.nodes (in_from_contains a w.nodes h) (same_node-self a)),
)

-- the test of an edge says that the world orders its ends so
pub has_edge_is : (w : World Node) (a b : Node) → IsTrue (has_edge w a b) ↔ Contains w.order (a, b)
has_edge_is w a b = (
  (λ h.
      let r = any_holds (λ e. same_edge e (a, b)) w.order h in
      let P : Edge → Type 0 = λ e. In e w.order in
      contains_from_in (a, b) w.order (subst P (same_edge-true r.0 (a, b) r.2) r.1)),
  (λ h. holds_any (λ e. same_edge e (a, b)) (a, b) w.order (in_from_contains (a, b) w.order h) (same_edge-self (a, b))),
)
