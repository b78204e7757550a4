-- The world that a graph generates, by its numbered nodes and its chains.
use Rattle.std.proofs.Common.{◌≡◌, ℕ, Bool, true, false, List, [], refl, sym, ◌∙◌, subst}
use Rattle.std.specs.{Prelude.{Contains, ◌↔◌, Option, Some, None, MatchOption, Result, Ok, Err, IfOk}, Option.{is_some}}
use Rattle.pc_common.specs.{Case.{Case}, Chain.{Chain}, World.{Node, Edge, World, IsWorld, has_node, has_edge, same_node}, Generated.{IsListed, IsGenerated}}
use Rattle.pc_common.proofs.{Nodes.{has_node_is, has_edge_is}, GeneratedWorlds.{generates, node_tells, generated_world}}
use Rattle.pc_syntax.specs.Closed.{PlainClosed, closed_satisfies}
use Rattle.pc_ground.specs.Numbers.{IsNumberOf}
use Rattle.graph_text.specs.{Graphs.{graph_nodes, graph_edges}, OpenGraphs.{PlainGraph}, GraphReading.{plain_graph}, declared.graph.Graph.{Graph}}
use Rattle.graph_check.{specs.{Orders.{AreNotNumbered, IsOrdered, AreArcsOf}, Arcs.{Arcs, Joins}, Shown.{IsShownOf}}, proofs.ArcChains.{chain_up, chain_down}}
use Rattle.graph_check.proofs.Numbers.{numbered_there, number_of}

-- what an option says where it has nothing
pub where_none : {X P : Type 0} (Q : X → Type 0) (o : Option X) → MatchOption o P Q → ((x : X) → o ≡ Some x → ⊥) → P
where_none Q None h none = h
where_none Q (Some x) h none = absurd (none x refl)

-- what a graph generates, the same graph does
pub generated_at : (w : World Node) (g h : PlainGraph) → g ≡ h → IsGenerated h.nodes h.edges w → IsGenerated g.nodes g.edges w
generated_at w g h same is = (let P : PlainGraph → Type 0 = λ x. IsGenerated x.nodes x.edges w in subst P (sym same) is)

-- two tests that hold of the same
alike : (x y : Bool) → (x ≡ true → y ≡ true) → (y ≡ true → x ≡ true) → x ≡ y
alike true y f g = sym (f refl)
alike false true f g = g refl
alike false false f g = refl

false_where_not : (x : Bool) → (x ≡ true → ⊥) → false ≡ x
false_where_not true never = absurd (never refl)
false_where_not false never = refl

there_in : (ns : List Node) (es : List Edge) (w : World Node) → IsGenerated ns es w → (a : Node) → Contains w.nodes a ↔ Contains ns a
there_in ns es w g a =
    let P : List Node → Type 0 = λ xs. Contains xs a in
    ((λ h. subst P g.nodes_are h), (λ h. subst P (sym g.nodes_are) h))

-- a node is there where it has a number
pub node_is : (ns nodes : List Node) (es : List Edge) (a : Node) (found : Option ℕ) → ((b : Node) → Contains nodes b ↔ Contains ns b)
    → MatchOption found ((k : ℕ) → IsNumberOf nodes k a → ⊥) (λ k. IsNumberOf nodes k a)
    → (w : World Node) → IsGenerated ns es w → is_some found ≡ has_node w a
node_is ns nodes es a (Some k) same is w g = sym ((has_node_is w a).1 ((there_in ns es w g a).1 ((same a).0 (numbered_there nodes k a is))))
node_is ns nodes es a None same none w g = false_where_not (has_node w a) (λ h.
    let n = number_of nodes a ((same a).1 ((there_in ns es w g a).0 ((has_node_is w a).0 h))) in none n.0 n.1)

-- two nodes are in order where a chain of edges joins them
pub edge_is : (ns : List Node) (es : List Edge) (a b : Node) (told : Bool) → (told ≡ true) ↔ Chain (IsListed es) a b
    → (w : World Node) → IsGenerated ns es w → told ≡ has_edge w a b
edge_is ns es a b told is w g = alike told (has_edge w a b)
    (λ h. (has_edge_is w a b).1 ((g.order_is a b).1 (is.0 h)))
    (λ h. is.1 ((g.order_is a b).0 ((has_edge_is w a b).0 h)))

-- the same of an answer by numbers
pub edge_answer : {E : Type 0} (ns nodes : List Node) (es : List Edge) (v : Arcs) → AreArcsOf nodes es v → (i j : ℕ) (a b : Node)
    → IsNumberOf nodes i a → IsNumberOf nodes j b
    → (result : Result Bool E) → IfOk result (λ told. (told ≡ true) ↔ Chain (Joins v) i j)
    → IfOk result (λ told. (w : World Node) → IsGenerated ns es w → told ≡ has_edge w a b)
edge_answer ns nodes es v s i j a b ia jb (Ok told) is =
    edge_is ns es a b told ((λ h. chain_up nodes es v s a b i j ia jb (is.0 h)), (λ chain. is.1 (chain_down nodes es v s a b i j ia jb chain)))
edge_answer ns nodes es v s i j a b ia jb (Err fault) is = is

-- and not where one of them has no number
pub edge_is_none : (ns nodes : List Node) (es : List Edge) (a b : Node) → ((c : Node) → Contains nodes c ↔ Contains ns c)
    → IsOrdered ns es → AreNotNumbered nodes a b
    → (w : World Node) → IsGenerated ns es w → false ≡ has_edge w a b
edge_is_none ns nodes es a b same o none w g = false_where_not (has_edge w a b) (λ h.
    let world = generated_world ns es w o.ends o.acyclic g in
    let both = world.ends a b ((has_edge_is w a b).0 h) in
    let i = number_of nodes a ((same a).1 ((there_in ns es w g a).0 both.0)) in
    let j = number_of nodes b ((same b).1 ((there_in ns es w g b).0 both.1)) in
    none i.0 j.0 i.1 j.1)

-- a graph that generates a world is ordered
ordered : (g : Graph) (w : World Node) → IsGenerated (graph_nodes g) (graph_edges g) w → IsWorld w → IsOrdered (graph_nodes g) (graph_edges g)
ordered g w is world = record {
  ends = λ a b h. (let both = world.ends a b ((is.order_is a b).1 ([], h)) in
      ((there_in (graph_nodes g) (graph_edges g) w is a).0 both.0, (there_in (graph_nodes g) (graph_edges g) w is b).0 both.1));
  acyclic = λ a c. world.irreflexive a ((is.order_is a a).1 c);
}

-- a graph that is not ordered shows nothing
pub hidden : (c : Case) (axioms : List PlainClosed) (g : Graph) → (IsOrdered (graph_nodes g) (graph_edges g) → ⊥) → (false ≡ true) ↔ IsShownOf c axioms g
hidden c axioms g never = ((λ e. cc), (λ s. absurd (never (ordered g s.world s.generated s.is_world))))

-- one that is ordered shows what is true in the world that it generates
pub shown : (c : Case) (axioms : List PlainClosed) (g : Graph) (b : Bool) → IsOrdered (graph_nodes g) (graph_edges g)
    → ((w : World Node) → IsGenerated (graph_nodes g) (graph_edges g) w → b ≡ closed_satisfies axioms c w)
    → (b ≡ true) ↔ IsShownOf c axioms g
shown c axioms g b o true_in = (
  (λ e.
      let r = generates same_node node_tells (graph_nodes g) (graph_edges g) o.ends o.acyclic in
      record { world = r.0; generated = r.1; is_world = r.2; satisfied = sym (true_in r.0 r.1) ∙ e }),
  (λ s. true_in s.world s.generated ∙ s.satisfied),
)

-- the same of an answer
pub shown_answer : {E : Type 0} (c : Case) (axioms : List PlainClosed) (g : Graph) (h : PlainGraph) → h ≡ plain_graph g
    → IsOrdered h.nodes h.edges → (result : Result Bool E)
    → IfOk result (λ b. (w : World Node) → IsGenerated h.nodes h.edges w → b ≡ closed_satisfies axioms c w)
    → IfOk result (λ b. (b ≡ true) ↔ IsShownOf c axioms g)
shown_answer c axioms g h same o (Ok b) is =
    let P : PlainGraph → Type 0 = λ x. IsOrdered x.nodes x.edges in
    shown c axioms g b (subst P same o) (λ w made. is w (generated_at w h (plain_graph g) same made))
shown_answer c axioms g h same o (Err fault) is = is
