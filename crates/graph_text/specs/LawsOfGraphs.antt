-- The first lines of a graph are the lines of one.
use Rattle.std.{specs.Prelude.{ℕ, ◌≡◌, ◌⊎◌, List, [], ◌∷◌, ◌++◌, All, Contains, map}, proofs.Common.{inl, inr, refl, ◌∙◌, ap, subst, arith}}
use Rattle.std.proofs.lemmas.List.{append-nil, Elements.{All-cons, All-head, All-tail, Contains-append_left}}
use Rattle.pc_common.specs.{World.{Node, Edge}, Lines.{Names, node, edge, line_words}, Generated.{HasEnds}}
use Rattle.pc_ground.specs.NodeForm.{IsNodeIn}
use Rattle.graph_text.specs.{Graphs.{graph_lines}, GraphReading.{AreGraphLines}}

All-append_left : {X : Type 0} (P : X → Type 0) (xs ys : List X) → All P (xs ++ ys) → All P xs
All-append_left P [] ys h = λ k d inside. absurd (omega (arith, inside))
All-append_left P (x ∷ xs) ys h =
    All-cons P x xs (All-head P x (xs ++ ys) h) (All-append_left P xs ys (All-tail P x (xs ++ ys) h))

pub heads : {X : Type 0} (x y : X) (xs ys : List X) → x ∷ xs ≡ y ∷ ys → x ≡ y
heads x y xs ys e = cc

pub tails : {X : Type 0} (x y : X) (xs ys : List X) → x ∷ xs ≡ y ∷ ys → xs ≡ ys
tails x y xs ys e = cc

pub no_lines : {X : Type 0} (x : X) (xs : List X) → x ∷ xs ≡ [] → ⊥
no_lines x xs e = cc

module _ (names : Names) where
  -- the first of the edges
  first_edges : (lines more : List (List ℕ)) (es : List Edge)
      → lines ++ more ≡ map (line_words names) (map (λ (e : Edge). edge e.0 e.1) es)
      → (first : List Edge) × (rest : List Edge) × (es ≡ first ++ rest)
      × (lines ≡ map (line_words names) (map (λ (e : Edge). edge e.0 e.1) first))
  first_edges [] more es is = ([], es, refl, refl)
  first_edges (line ∷ lines) more [] is = absurd (no_lines line (lines ++ more) is)
  first_edges (line ∷ lines) more (e ∷ es) is =
      let r = first_edges lines more es (tails line (line_words names (edge e.0 e.1)) (lines ++ more)
      (map (line_words names) (map (λ (x : Edge). edge x.0 x.1) es)) is) in (
        e ∷ r.0,
        r.1,
        ap (λ xs. e ∷ xs) r.2,
        ap (λ l. l ∷ lines) (heads line (line_words names (edge e.0 e.1)) (lines ++ more)
            (map (line_words names) (map (λ (x : Edge). edge x.0 x.1) es)) is)
            ∙ ap (λ ls. line_words names (edge e.0 e.1) ∷ ls) r.3,
      )

  -- the first of a graph's nodes and edges: all nodes, where there is an edge among them
  record FirstPart (lines : List (List ℕ)) (ns : List Node) (es : List Edge) : Type 0 where
    nodes : List Node
    edges : List Edge
    nodes_rest : List Node
    edges_rest : List Edge
    nodes_are : ns ≡ nodes ++ nodes_rest
    edges_are : es ≡ edges ++ edges_rest
    order : (edges ≡ []) ⊎ (nodes_rest ≡ [])
    lines_are : lines ≡ map (line_words names) (graph_lines nodes edges)

  first_part_of : (lines more : List (List ℕ)) (ns : List Node) (es : List Edge)
      → lines ++ more ≡ map (line_words names) (graph_lines ns es) → FirstPart lines ns es
  first_part_of [] more ns es is =
      record {
        nodes = [];
        edges = [];
        nodes_rest = ns;
        edges_rest = es;
        nodes_are = refl;
        edges_are = refl;
        order = inl refl;
        lines_are = refl;
      }
  first_part_of (line ∷ lines) more [] es is =
      let r = first_edges (line ∷ lines) more es is in
      record {
        nodes = [];
        edges = r.0;
        nodes_rest = [];
        edges_rest = r.1;
        nodes_are = refl;
        edges_are = r.2;
        order = inr refl;
        lines_are = r.3;
      }
  first_part_of (line ∷ lines) more (n ∷ ns) es is =
      let r = first_part_of lines more ns es
      (tails line (line_words names (node n)) (lines ++ more) (map (line_words names) (graph_lines ns es)) is) in
      record {
        nodes = n ∷ r.nodes;
        edges = r.edges;
        nodes_rest = r.nodes_rest;
        edges_rest = r.edges_rest;
        nodes_are = ap (λ xs. n ∷ xs) r.nodes_are;
        edges_are = r.edges_are;
        order = r.order;
        lines_are = ap (λ l. l ∷ lines)
            (heads line (line_words names (node n)) (lines ++ more) (map (line_words names) (graph_lines ns es)) is)
            ∙ ap (λ ls. line_words names (node n) ∷ ls) r.lines_are;
      }

  first_ends : (ns rest : List Node) (es others : List Edge) → (es ≡ []) ⊎ (rest ≡ [])
      → HasEnds (ns ++ rest) (es ++ others) → HasEnds ns es
  first_ends ns rest es others (inl none) h = λ a b has. absurd (empty (subst P none ((a, b), has)))
    where
      P : List Edge → Type 0
      P xs = (e : Edge) × Contains xs e

      empty : P [] → ⊥
      empty has = let inside = has.1.1 in omega (arith, inside)
  first_ends ns rest es others (inr all) h = λ a b has.
      (let ends = h a b (Contains-append_left es others (a, b) has) in (back a ends.0, back b ends.1))
    where
      back : (a : Node) → Contains (ns ++ rest) a → Contains ns a
      back a has = (let P : List Node → Type 0 = λ xs. Contains xs a in
          subst P (ap (λ xs. ns ++ xs) all ∙ append-nil ns) has)

  pub first_lines_of : (lines more : List (List ℕ)) → AreGraphLines names (lines ++ more) → AreGraphLines names lines
  first_lines_of lines more (g, h) =
      let r = first_part_of lines more g.nodes g.edges h.lines_are in
      let P : List Node → Type 0 = λ ns. All (IsNodeIn names) ns in
      let Q : List Node → Type 0 = λ ns. HasEnds ns g.edges in
      let R : List Edge → Type 0 = λ es. HasEnds (r.nodes ++ r.nodes_rest) es in (
        record { nodes = r.nodes; edges = r.edges },
        record {
          graph = record {
            of_names = All-append_left (IsNodeIn names) r.nodes r.nodes_rest (subst P r.nodes_are h.graph.of_names);
            ends = first_ends r.nodes r.nodes_rest r.edges r.edges_rest r.order
                (subst R r.edges_are (subst Q r.nodes_are h.graph.ends));
          };
          lines_are = r.lines_are;
        },
      )
