-- The nodes and edges that lines are of.
use Rattle.std.proofs.Common.{◌≡◌, inl, inr, Bool, true, false, List, [], ◌∷◌, ◌++◌, Result, Ok, Err, map, refl, sym, ◌∙◌, ap, subst}
use Rattle.std.{proofs.lemmas.List.{append-nil, Elements.{All-push}}, specs.Prelude.{All, Contains, MatchBool, IfOk, OnErr}}
use Rattle.pc_common.specs.{World.{Node, Edge}, Generated.{HasEnds}}
use Rattle.pc_common.specs.Lines.{Names, Line, verdict, second, node as node_line, edge as edge_line, version_two, step, end}
use Rattle.pc_common.proofs.Elements.{In, in_from_contains, contains_from_in, in_front, in_either}
use Rattle.pc_ground.specs.NodeForm.{IsNodeIn}
use Rattle.graph_text.specs.{Graphs.{graph_lines}, GraphTexts.{IsGraphLineIn}, OpenGraphs.{PlainGraph, Follows, IsWithLine}}

-- a graph's line is a node line or an edge line
pub graph_line_cases : (names : Names) (P : Line → Type 0) → ((a : Node) → IsNodeIn names a → P (node_line a))
    → ((a b : Node) → IsNodeIn names a × IsNodeIn names b → P (edge_line a b)) → (l : Line) → IsGraphLineIn names l → P l
graph_line_cases names P of_node of_edge (node_line a) h = of_node a h
graph_line_cases names P of_node of_edge (edge_line a b) h = of_edge a b h
graph_line_cases names P of_node of_edge l h = absurd h

abbrev pub nodes_in : List Line → List Node
nodes_in [] = []
nodes_in (node_line a ∷ ls) = a ∷ nodes_in ls
nodes_in (edge_line a b ∷ ls) = nodes_in ls
nodes_in (verdict v ∷ ls) = nodes_in ls
nodes_in (second v e ∷ ls) = nodes_in ls
nodes_in (version_two ∷ ls) = nodes_in ls
nodes_in (step s ∷ ls) = nodes_in ls
nodes_in (end ∷ ls) = nodes_in ls

abbrev pub edges_in : List Line → List Edge
edges_in [] = []
edges_in (node_line a ∷ ls) = edges_in ls
edges_in (edge_line a b ∷ ls) = (a, b) ∷ edges_in ls
edges_in (verdict v ∷ ls) = edges_in ls
edges_in (second v e ∷ ls) = edges_in ls
edges_in (version_two ∷ ls) = edges_in ls
edges_in (step s ∷ ls) = edges_in ls
edges_in (end ∷ ls) = edges_in ls

nodes_of_edges : (es : List Edge) → nodes_in (map (λ (e : Edge). edge_line e.0 e.1) es) ≡ []
nodes_of_edges [] = refl
nodes_of_edges (e ∷ es) = nodes_of_edges es

-- with a line after them
nodes_before : (ns : List Node) (es : List Edge) (l : Line) → nodes_in (graph_lines ns es ++ l ∷ []) ≡ ns ++ nodes_in (l ∷ [])
nodes_before [] es l = behind es
  where
    behind : (es : List Edge) → nodes_in (map (λ (e : Edge). edge_line e.0 e.1) es ++ l ∷ []) ≡ nodes_in (l ∷ [])
    behind [] = refl
    behind (e ∷ es) = behind es
nodes_before (n ∷ ns) es l = ap (λ xs. n ∷ xs) (nodes_before ns es l)

-- the nodes of a graph's lines are the graph's
pub nodes_are : (ns : List Node) (es : List Edge) → nodes_in (graph_lines ns es) ≡ ns
nodes_are [] es = nodes_of_edges es
nodes_are (n ∷ ns) es = ap (λ xs. n ∷ xs) (nodes_are ns es)

-- and so are the edges
pub edges_are : (ns : List Node) (es : List Edge) → edges_in (graph_lines ns es) ≡ es
edges_are [] [] = refl
edges_are [] (e ∷ es) = ap (λ xs. e ∷ xs) (edges_are [] es)
edges_are (n ∷ ns) es = edges_are ns es

edges_before : (ns : List Node) (es : List Edge) (l : Line) → edges_in (graph_lines ns es ++ l ∷ []) ≡ es ++ edges_in (l ∷ [])
edges_before [] [] l = refl
edges_before [] (e ∷ es) l = ap (λ xs. e ∷ xs) (edges_before [] es l)
edges_before (n ∷ ns) es l = edges_before ns es l

-- a graph with one line more, by its nodes and edges
pub nodes_with : (ns ms : List Node) (es fs : List Edge) (l : Line) → graph_lines ms fs ≡ graph_lines ns es ++ l ∷ [] → ms ≡ ns ++ nodes_in (l ∷ [])
nodes_with ns ms es fs l is = sym (nodes_are ms fs) ∙ ap nodes_in is ∙ nodes_before ns es l

pub edges_with : (ns ms : List Node) (es fs : List Edge) (l : Line) → graph_lines ms fs ≡ graph_lines ns es ++ l ∷ [] → fs ≡ es ++ edges_in (l ∷ [])
edges_with ns ms es fs l is = sym (edges_are ms fs) ∙ ap edges_in is ∙ edges_before ns es l

-- one line more brings no node of other names
with_names : (names : Names) (old new : PlainGraph) (l : Line) → IsGraphLineIn names l → IsWithLine old new l
    → All (IsNodeIn names) old.nodes → All (IsNodeIn names) new.nodes
with_names names old new l inside put all =
    let P : List Node → Type 0 = λ ns. All (IsNodeIn names) ns in
    subst P (sym (nodes_with old.nodes new.nodes old.edges new.edges l put.lines))
    (graph_line_cases names (λ k. P (old.nodes ++ nodes_in (k ∷ []))) (λ a h. All-push (IsNodeIn names) old.nodes a all h)
    (λ a b h. subst P (sym (append-nil old.nodes)) all) l inside)

pub keeps_names : {E : Type 0} (names : Names) (old new : PlainGraph) (l : Line) (result : Result Bool E) → IsGraphLineIn names l
    → IfOk result (λ taken. MatchBool taken (IsWithLine old new l) ((Follows old l → ⊥) × (new ≡ old))) → OnErr result (new ≡ old)
    → All (IsNodeIn names) old.nodes → All (IsNodeIn names) new.nodes
keeps_names names old new l (Ok true) inside h k all = with_names names old new l inside h all
keeps_names names old new l (Ok false) inside h k all = (let P : PlainGraph → Type 0 = λ g. All (IsNodeIn names) g.nodes in subst P (sym h.1) all)
keeps_names names old new l (Err fault) inside h k all = (let P : PlainGraph → Type 0 = λ g. All (IsNodeIn names) g.nodes in subst P (sym k) all)

-- one line more that may stand next leaves each edge between two of the nodes
pub keeps_ends : (old new : PlainGraph) (l : Line) → IsWithLine old new l → HasEnds old.nodes old.edges → HasEnds new.nodes new.edges
keeps_ends old new l put ends =
    with_line l put.follows (nodes_with old.nodes new.nodes old.edges new.edges l put.lines) (edges_with old.nodes new.nodes old.edges new.edges l put.lines)
  where
    listed_in : (es : List Edge) → new.edges ≡ es → (x y : Node) → Contains new.edges (x, y) → In {X = Edge} (x, y) es
    listed_in es same x y has = in_from_contains (x, y) es (let P : List Edge → Type 0 = λ fs. Contains fs (x, y) in subst P same has)

    stays : (more : List Node) → new.nodes ≡ old.nodes ++ more → (x : Node) → Contains old.nodes x → Contains new.nodes x
    stays more same x has =
        let P : List Node → Type 0 = λ ns. Contains ns x in
        subst P (sym same) (contains_from_in x (old.nodes ++ more) (in_front x old.nodes more (in_from_contains x old.nodes has)))

    of_old : (more : List Node) → new.nodes ≡ old.nodes ++ more → (x y : Node) → In {X = Edge} (x, y) old.edges → Contains new.nodes x × Contains new.nodes y
    of_old more same x y i = (let both = ends x y (contains_from_in (x, y) old.edges i) in (stays more same x both.0, stays more same y both.1))

    last_edge : (a b x y : Node) → Contains old.nodes a × Contains old.nodes b → new.nodes ≡ old.nodes ++ [] → In {X = Edge} (x, y) ((a, b) ∷ [])
        → Contains new.nodes x × Contains new.nodes y
    last_edge a b x y follows same (inl e) =
        let P : Node × Node → Type 0 = λ p. Contains new.nodes p.0 × Contains new.nodes p.1 in
        subst P e (stays [] same a follows.0, stays [] same b follows.1)
    last_edge a b x y follows same (inr i) = absurd i

    with_line : (l : Line) → Follows old l → new.nodes ≡ old.nodes ++ nodes_in (l ∷ []) → new.edges ≡ old.edges ++ edges_in (l ∷ [])
        → HasEnds new.nodes new.edges
    with_line (node_line a) follows nodes edges x y has = of_old (a ∷ []) nodes x y (listed_in old.edges (edges ∙ append-nil old.edges) x y has)
    with_line (edge_line a b) follows nodes edges x y has =
        elim (in_either (x, y) old.edges ((a, b) ∷ []) (listed_in (old.edges ++ (a, b) ∷ []) edges x y has)) [
          | inl i ↦ of_old [] nodes x y i
          | inr i ↦ last_edge a b x y follows nodes i
        ]
    with_line (verdict v) follows nodes edges x y has = absurd follows
    with_line (second v e) follows nodes edges x y has = absurd follows
    with_line version_two follows nodes edges x y has = absurd follows
    with_line (step s) follows nodes edges x y has = absurd follows
    with_line end follows nodes edges x y has = absurd follows
