-- The lines of a graph: of no two graphs, and what the last one is.
use Rattle.std.proofs.{Common.{◌≡◌, inl, inr, List, [], ◌∷◌, ◌++◌, map, refl, sym, ◌∙◌, ap}, lemmas.List.{append-nil}}
use Rattle.pc_common.specs.{World.{Node, Edge}, Lines.{Line, node, edge}}
use Rattle.graph_text.specs.Graphs.{graph_lines}
use Rattle.cert_check.proofs.Lasts.{last_of, last_map, map_same}

abbrev edge_at : Edge → Line
edge_at e = edge e.0 e.1

same_edge_line : (e f : Edge) → edge_at e ≡ edge_at f → e ≡ f
same_edge_line (a, b) (c, d) e = let first : a ≡ c = cc in let second : b ≡ d = cc in ap (λ (x : Node). (x, b)) first ∙ ap (λ (y : Node). (c, y)) second

-- node lines before no edges are no edge lines
pub graph_same : (ns ms : List Node) (es fs : List Edge) → graph_lines ns es ≡ graph_lines ms fs → (ns ≡ ms) × (es ≡ fs)
graph_same [] [] es fs e = (refl, map_same edge_at same_edge_line es fs e)
graph_same [] (m ∷ ms) [] fs e = cc
graph_same [] (m ∷ ms) (x ∷ es) fs e = cc
graph_same (n ∷ ns) [] es [] e = cc
graph_same (n ∷ ns) [] es (x ∷ fs) e = cc
graph_same (n ∷ ns) (m ∷ ms) es fs e =
    let heads : n ≡ m = cc in
    let tails : graph_lines ns es ≡ graph_lines ms fs = cc in
    let r = graph_same ns ms es fs tails in
    (ap (λ (x : Node). x ∷ ns) heads ∙ ap (λ (xs : List Node). m ∷ xs) r.0, r.1)

-- what the last line of a graph is, and the graph before it
pub data LastOfGraph (nodes : List Node) (edges : List Edge) (before : List Line) (last : Line) : Type 0 where
  a_node : (ns : List Node) (a : Node) → nodes ≡ ns ++ a ∷ [] → edges ≡ [] → before ≡ graph_lines ns [] → last ≡ node a
      → LastOfGraph nodes edges before last
  an_edge : (es : List Edge) (e : Edge) → edges ≡ es ++ e ∷ [] → before ≡ graph_lines nodes es → last ≡ edge e.0 e.1
      → LastOfGraph nodes edges before last

no_edges : (es : List Edge) → map edge_at es ≡ [] → es ≡ []
no_edges [] e = refl
no_edges (x ∷ es) e = cc

pub last_line : (nodes : List Node) (edges : List Edge) (before : List Line) (last : Line)
    → graph_lines nodes edges ≡ before ++ last ∷ [] → LastOfGraph nodes edges before last
last_line nodes edges before last e =
    elim (last_of (map node nodes) (map edge_at edges) before last e) [
      | inl r ↦
          let m = last_map node nodes before last r.1 in
          a_node m.0 m.1 m.2 (no_edges edges r.0) (sym m.3 ∙ sym (append-nil (map node m.0))) (sym m.4)
      | inr r ↦
          let m = last_map edge_at edges r.0 last r.1 in
          an_edge m.0 m.1 m.2 (r.2 ∙ ap (λ (t : List Line). map node nodes ++ t) (sym m.3)) (sym m.4)
    ]

-- a graph with one line more, by what that line is
pub data NextOfGraph (nodes : List Node) (edges : List Edge) (ns : List Node) (es : List Edge) (last : Line) : Type 0 where
  next_node : (a : Node) → last ≡ node a → edges ≡ [] → ns ≡ nodes ++ a ∷ [] → es ≡ [] → NextOfGraph nodes edges ns es last
  next_edge : (a b : Node) → last ≡ edge a b → ns ≡ nodes → es ≡ edges ++ (a, b) ∷ [] → NextOfGraph nodes edges ns es last

pub next_of_graph : (nodes : List Node) (edges : List Edge) (ns : List Node) (es : List Edge) (last : Line)
    → graph_lines ns es ≡ graph_lines nodes edges ++ last ∷ [] → NextOfGraph nodes edges ns es last
next_of_graph nodes edges ns es last e = go (last_line ns es (graph_lines nodes edges) last e)
  where
    go : LastOfGraph ns es (graph_lines nodes edges) last → NextOfGraph nodes edges ns es last
    go (a_node ms a is none before at) =
        let r = graph_same nodes ms edges [] before in
        next_node a at r.1 (is ∙ ap (λ (t : List Node). t ++ a ∷ []) (sym r.0)) none
    go (an_edge fs f is before at) =
        let r = graph_same nodes ns edges fs before in
        next_edge f.0 f.1 at (sym r.0) (is ∙ ap (λ (t : List Edge). t ++ f ∷ []) (sym r.1))
