-- A text is the lines of one graph at most, and which line may go on from a graph's.
use Rattle.std.proofs.Common.{◌≡◌, ◌⊎◌, ℕ, zero, suc, inl, inr, Bool, true, false, List, [], ◌∷◌, ◌++◌, Result, Ok, Err, length, map, refl, sym, ◌∙◌, ap, subst, arith, append_assoc}
use Rattle.std.proofs.lemmas.List.{map_push, append-nil}
use Rattle.std.proofs.lemmas.List.Elements.{All-head, All-tail, All-cons, All-append, All-contains, Contains-push, Contains-push_cases, Contains-append_left}
use Rattle.std.specs.Prelude.{Contains, All, codes, IfOk, MatchBool}
use Rattle.line_judge.{specs.{Texts.{IsLine, text_of_lines, IsMadeOf, IsRefusedAt}, Feeds.{IsRefusedBy}}, proofs.Cuts.{same_first}}
use Rattle.pc_common.specs.{World.{Node, Edge}, Lines.{Names, Line, node as node_line, edge as edge_line, node_text, line_words, line_text, lines_text}}
use Rattle.pc_common.{specs.Generated.{HasEnds}, proofs.Elements.{In, contains_from_in}}
use Rattle.pc_ground.{specs.NodeForm.{IsNodeIn, AreReadable}, proofs.Cuts.{cut_is}}
use Rattle.graph_text.specs.{declared.graph.Graph.{Graph}, Graphs.{graph_nodes, graph_edges, graph_lines}}
use Rattle.graph_text.specs.{GraphTexts.{space, IsGraphLineIn, AreEndsIn, ends_words}, OpenGraphs.{PlainGraph, Follows, Takes, Refuses}}
use Rattle.graph_text.specs.{LawsOfGraphs.{heads, tails, no_lines}, GraphReading.{IsGraphIn, AreLinesOf, AreGraphLines, IsTakenBy, IsTextOf, plain_graph}}
use Rattle.graph_text.proofs.LinesOf.{graph_line_cases, nodes_in, edges_in, nodes_are, edges_are, nodes_with, edges_with}
use Rattle.graph_text.proofs.Spaces.{form_spaceless, form_on_one_line, lacking_on_line, words_apart, node_words_are, edge_words_are}

-- each is a graph's line of these names
abbrev AreIn : Names → List Line → Type 0
AreIn names [] = Unit {0}
AreIn names (l ∷ ls) = IsGraphLineIn names l × AreIn names ls

edge_lines_in : (names : Names) (es : List Edge) → ((a b : Node) → In (a, b) es → AreEndsIn names a b) → AreIn names (map (λ (e : Edge). edge_line e.0 e.1) es)
edge_lines_in names [] h = tt
edge_lines_in names ((a, b) ∷ es) h = (h a b (inl refl), edge_lines_in names es (λ x y i. h x y (inr i)))

lines_in : (names : Names) (ns : List Node) (es : List Edge) → All (IsNodeIn names) ns → ((a b : Node) → In (a, b) es → AreEndsIn names a b)
    → AreIn names (graph_lines ns es)
lines_in names [] es all h = edge_lines_in names es h
lines_in names (n ∷ ns) es all h = (All-head (IsNodeIn names) n ns all, lines_in names ns es (All-tail (IsNodeIn names) n ns all) h)

graph_lines_in : (names : Names) (g : PlainGraph) → IsGraphIn names g → AreIn names (graph_lines g.nodes g.edges)
graph_lines_in names g h =
    lines_in names g.nodes g.edges h.of_names (λ a b i.
    (let ends = h.ends a b (contains_from_in (a, b) g.edges i) in
    (All-contains (IsNodeIn names) g.nodes a h.of_names ends.0, All-contains (IsNodeIn names) g.nodes b h.of_names ends.1)))

module _ (names : Names) (readable : AreReadable names) where
  -- no two lines have one text
  node_again : (a b : Node) → IsNodeIn names a → IsNodeIn names b → line_words names (node_line a) ≡ line_words names (node_line b) → node_line a ≡ node_line b
  node_again a b f g e =
      ap node_line (readable.apart a b f g (cut_is space (line_words names (node_line a)) (codes "node") (node_text names a) (codes "node") (node_text names b)
      (refl, node_words_are names a) (refl, e ∙ node_words_are names b)).1)

  no_edge_of_node : (a b c : Node) → line_words names (node_line a) ≡ line_words names (edge_line b c) → ⊥
  no_edge_of_node a b c e =
      words_apart (cut_is space (line_words names (node_line a)) (codes "node") (node_text names a) (codes "edge") (ends_words names b c)
      (refl, node_words_are names a) (refl, e ∙ edge_words_are names b c)).0

  edge_again : (a b c d : Node) → AreEndsIn names a b → AreEndsIn names c d → line_words names (edge_line a b) ≡ line_words names (edge_line c d)
      → edge_line a b ≡ edge_line c d
  edge_again a b c d f g e =
      let ends = (cut_is space (line_words names (edge_line a b)) (codes "edge") (ends_words names a b) (codes "edge") (ends_words names c d)
      (refl, edge_words_are names a b) (refl, e ∙ edge_words_are names c d)).1 in
      let same = cut_is space (ends_words names a b) (node_text names a) (node_text names b) (node_text names c) (node_text names d)
      (form_spaceless (node_text names a) (readable.form a f.0), refl) (form_spaceless (node_text names c) (readable.form c g.0), ends) in
      ap (λ x. edge_line x b) (readable.apart a c f.0 g.0 same.0) ∙ ap (λ x. edge_line c x) (readable.apart b d f.1 g.1 same.1)

  same_line : (k l : Line) → IsGraphLineIn names k → IsGraphLineIn names l → line_words names k ≡ line_words names l → k ≡ l
  same_line k l f g = graph_line_cases names P of_node of_edge k f l g
    where
      P : Line → Type 0
      P x = (y : Line) → IsGraphLineIn names y → line_words names x ≡ line_words names y → x ≡ y

      of_node : (a : Node) → IsNodeIn names a → P (node_line a)
      of_node a f = graph_line_cases names (λ y. line_words names (node_line a) ≡ line_words names y → node_line a ≡ y)
          (λ b g e. node_again a b f g e) (λ b c g e. absurd (no_edge_of_node a b c e))

      of_edge : (a b : Node) → AreEndsIn names a b → P (edge_line a b)
      of_edge a b f = graph_line_cases names (λ y. line_words names (edge_line a b) ≡ line_words names y → edge_line a b ≡ y)
          (λ c g e. absurd (no_edge_of_node c a b (sym e))) (λ c d g e. edge_again a b c d f g e)

  same_lines : (xs ys : List Line) → AreIn names xs → AreIn names ys → map (line_words names) xs ≡ map (line_words names) ys → xs ≡ ys
  same_lines [] [] f g e = refl
  same_lines [] (y ∷ ys) f g e = absurd (no_lines (line_words names y) (map (line_words names) ys) (sym e))
  same_lines (x ∷ xs) [] f g e = absurd (no_lines (line_words names x) (map (line_words names) xs) e)
  same_lines (x ∷ xs) (y ∷ ys) f g e =
      let first = heads (line_words names x) (line_words names y) (map (line_words names) xs) (map (line_words names) ys) e in
      let rest = tails (line_words names x) (line_words names y) (map (line_words names) xs) (map (line_words names) ys) e in
      ap (λ z. z ∷ xs) (same_line x y f.0 g.0 first) ∙ ap (λ zs. y ∷ zs) (same_lines xs ys f.1 g.1 rest)

  -- lines whose texts are those of others and one more, are these and one more
  record IsLast (xs ys : List Line) (text : List ℕ) : Type 0 where
    line : Line
    of_names : IsGraphLineIn names line
    lines : ys ≡ xs ++ line ∷ []
    text_is : text ≡ line_words names line

  last_line : (xs ys : List Line) (text : List ℕ) → AreIn names xs → AreIn names ys → map (line_words names) xs ++ text ∷ [] ≡ map (line_words names) ys
      → IsLast xs ys text
  last_line [] [] text f g e = absurd (no_lines text [] e)
  last_line [] (y ∷ []) text f g e = record { line = y; of_names = g.0; lines = refl; text_is = heads text (line_words names y) [] [] e }
  last_line [] (y ∷ (z ∷ ys)) text f g e =
      absurd (no_lines (line_words names z) (map (line_words names) ys) (sym (tails text (line_words names y) [] (map (line_words names) (z ∷ ys)) e)))
  last_line (x ∷ xs) [] text f g e = absurd (no_lines (line_words names x) (map (line_words names) xs ++ text ∷ []) e)
  last_line (x ∷ xs) (y ∷ ys) text f g e =
      let first = heads (line_words names x) (line_words names y) (map (line_words names) xs ++ text ∷ []) (map (line_words names) ys) e in
      let rest = tails (line_words names x) (line_words names y) (map (line_words names) xs ++ text ∷ []) (map (line_words names) ys) e in
      let last = last_line xs ys text f.1 g.1 rest in
      record {
        line = last.line;
        of_names = last.of_names;
        lines = ap (λ z. z ∷ ys) (sym (same_line x y f.0 g.0 first)) ∙ ap (λ zs. x ∷ zs) last.lines;
        text_is = last.text_is;
      }

-- no node line stands after an edge line
late_node : (es fs : List Edge) (a : Node) → map (λ (e : Edge). edge_line e.0 e.1) es ≡ map (λ (e : Edge). edge_line e.0 e.1) fs ++ node_line a ∷ [] → ⊥
late_node [] [] a e = no_lines (node_line a) [] (sym e)
late_node [] (f ∷ fs) a e = no_lines (edge_line f.0 f.1) (map (λ (x : Edge). edge_line x.0 x.1) fs ++ node_line a ∷ []) (sym e)
late_node (x ∷ es) [] a e = no_node (heads (edge_line x.0 x.1) (node_line a) (map (λ (y : Edge). edge_line y.0 y.1) es) [] e)
  where
    no_node : edge_line x.0 x.1 ≡ node_line a → ⊥
    no_node e = cc
late_node (x ∷ es) (f ∷ fs) a e =
    late_node es fs a
    (tails (edge_line x.0 x.1) (edge_line f.0 f.1) (map (λ (y : Edge). edge_line y.0 y.1) es) (map (λ (y : Edge). edge_line y.0 y.1) fs ++ node_line a ∷ []) e)

before_edges : (ns ms : List Node) (es fs : List Edge) (a : Node) → graph_lines ns es ≡ graph_lines ms fs ++ node_line a ∷ [] → fs ≡ []
before_edges ns ms es [] a e = refl
before_edges [] [] es (f ∷ fs) a e = absurd (late_node es (f ∷ fs) a e)
before_edges (n ∷ ns) [] es (f ∷ fs) a e =
    absurd (no_edge (heads (node_line n) (edge_line f.0 f.1) (graph_lines ns es) (map (λ (y : Edge). edge_line y.0 y.1) fs ++ node_line a ∷ []) e))
  where
    no_edge : node_line n ≡ edge_line f.0 f.1 → ⊥
    no_edge e = cc
before_edges [] (m ∷ ms) [] (f ∷ fs) a e = absurd (no_lines (node_line m) (graph_lines ms (f ∷ fs) ++ node_line a ∷ []) (sym e))
before_edges [] (m ∷ ms) (x ∷ es) (f ∷ fs) a e =
    absurd (no_node (heads (edge_line x.0 x.1) (node_line m) (map (λ (y : Edge). edge_line y.0 y.1) es) (graph_lines ms (f ∷ fs) ++ node_line a ∷ []) e))
  where
    no_node : edge_line x.0 x.1 ≡ node_line m → ⊥
    no_node e = cc
before_edges (n ∷ ns) (m ∷ ms) es (f ∷ fs) a e =
    before_edges ns ms es (f ∷ fs) a (tails (node_line n) (node_line m) (graph_lines ns es) (graph_lines ms (f ∷ fs) ++ node_line a ∷ []) e)

-- a graph's last line follows what stands before it
last_follows : (names : Names) (g h : PlainGraph) (l : Line) → HasEnds h.nodes h.edges → IsGraphLineIn names l
    → graph_lines h.nodes h.edges ≡ graph_lines g.nodes g.edges ++ l ∷ [] → Follows g l
last_follows names g h l ends inside = graph_line_cases names P of_node of_edge l inside
  where
    P : Line → Type 0
    P k = graph_lines h.nodes h.edges ≡ graph_lines g.nodes g.edges ++ k ∷ [] → Follows g k

    of_node : (a : Node) → IsNodeIn names a → P (node_line a)
    of_node a inside is = before_edges h.nodes g.nodes h.edges g.edges a is

    of_edge : (a b : Node) → AreEndsIn names a b → P (edge_line a b)
    of_edge a b inside is =
        let Q : List Edge → Type 0 = λ es. Contains es (a, b) in
        let R : List Node → Type 0 = λ ns. Contains ns a × Contains ns b in
        subst R (nodes_with g.nodes h.nodes g.edges h.edges (edge_line a b) is ∙ append-nil g.nodes)
        (ends a b (subst Q (sym (edges_with g.nodes h.nodes g.edges h.edges (edge_line a b) is)) (Contains-push g.edges (a, b))))

pub goes_on : (names : Names) (old new : PlainGraph) (text : List ℕ) (lines : List (List ℕ)) → Takes names text old new
    → (All (IsNodeIn names) old.nodes → All (IsNodeIn names) new.nodes) → IsTakenBy names old lines → IsTakenBy names new (lines ++ text ∷ [])
goes_on names old new text lines takes named h = record {
  readable = h.readable;
  taken = record {
    graph = record { of_names = named h.taken.graph.of_names; ends = ends takes.line takes.of_names takes.put.follows takes.put.lines };
    lines_are = ap (λ ls. ls ++ text ∷ []) h.taken.lines_are ∙ ap (λ t. map (line_words names) (graph_lines old.nodes old.edges) ++ t ∷ []) takes.text_is
        ∙ sym (map_push (line_words names) (graph_lines old.nodes old.edges) takes.line) ∙ ap (map (line_words names)) (sym takes.put.lines);
  };
}
  where
    P : Line → Type 0
    P l = Follows old l → graph_lines new.nodes new.edges ≡ graph_lines old.nodes old.edges ++ l ∷ [] → HasEnds new.nodes new.edges

    of_node : (a : Node) → IsNodeIn names a → P (node_line a)
    of_node a inside follows is = λ x y has.
        (let Q : List Edge → Type 0 = λ es. Contains es (x, y) in
        let R : List Node → Type 0 = λ ns. Contains ns x × Contains ns y in
        let found = h.taken.graph.ends x y (subst Q (edges_with old.nodes new.nodes old.edges new.edges (node_line a) is ∙ append-nil old.edges) has) in
        subst R (sym (nodes_with old.nodes new.nodes old.edges new.edges (node_line a) is))
        (Contains-append_left old.nodes (a ∷ []) x found.0, Contains-append_left old.nodes (a ∷ []) y found.1))

    of_edge : (a b : Node) → AreEndsIn names a b → P (edge_line a b)
    of_edge a b inside follows is = λ x y has.
        (let Q : List Edge → Type 0 = λ es. Contains es (x, y) in
        let R : List Node → Type 0 = λ ns. Contains ns x × Contains ns y in
        subst R (sym (nodes_with old.nodes new.nodes old.edges new.edges (edge_line a b) is ∙ append-nil old.nodes))
        (either x y (Contains-push_cases old.edges (a, b) (x, y) (subst Q (edges_with old.nodes new.nodes old.edges new.edges (edge_line a b) is) has))))
      where
        either : (x y : Node) → Contains old.edges (x, y) ⊎ ((◌≡◌ {A = Edge}) (a, b) (x, y)) → Contains old.nodes x × Contains old.nodes y
        either x y (inl has) = h.taken.graph.ends x y has
        either x y (inr e) =
            (let S : Node → Type 0 = λ n. Contains old.nodes n in
            (subst S (ap (λ (p : Edge). p.0) e) follows.0, subst S (ap (λ (p : Edge). p.1) e) follows.1))

    ends : (l : Line) → IsGraphLineIn names l → P l
    ends = graph_line_cases names P of_node of_edge

pub goes_no_further : (names : Names) (old : PlainGraph) (text : List ℕ) (lines : List (List ℕ)) → Refuses names text old → IsTakenBy names old lines
    → AreGraphLines names (lines ++ text ∷ []) → ⊥
goes_no_further names old text lines refuses h (g, more) =
    let last = last_line names h.readable (graph_lines old.nodes old.edges) (graph_lines g.nodes g.edges) text
    (graph_lines_in names old h.taken.graph) (graph_lines_in names g more.graph) (ap (λ ls. ls ++ text ∷ []) (sym h.taken.lines_are) ∙ more.lines_are) in
    refuses last.line last.of_names (last_follows names old g last.line more.graph.ends last.of_names last.lines) last.text_is

-- lines with their LFs are the text
pub joined_lines : (names : Names) (ls : List Line) → text_of_lines (map (line_words names) ls) ≡ lines_text names ls
joined_lines names [] = refl
joined_lines names (l ∷ ls) = ap (λ text. line_text names l ++ text) (joined_lines names ls)

one_cutting : (ls ms : List (List ℕ)) → All IsLine ls → All IsLine ms → text_of_lines ls ≡ text_of_lines ms → ls ≡ ms
one_cutting [] [] f g e = refl
one_cutting [] (m ∷ ms) f g e = absurd (no_line m (text_of_lines ms) (sym e))
  where
    no_line : (m rest : List ℕ) → (m ++ 10 ∷ []) ++ rest ≡ [] → ⊥
    no_line [] rest e = no_lines 10 rest e
    no_line (c ∷ cs) rest e = no_lines c ((cs ++ 10 ∷ []) ++ rest) e
one_cutting (l ∷ ls) [] f g e = absurd (no_line l (text_of_lines ls) e)
  where
    no_line : (m rest : List ℕ) → (m ++ 10 ∷ []) ++ rest ≡ [] → ⊥
    no_line [] rest e = no_lines 10 rest e
    no_line (c ∷ cs) rest e = no_lines c ((cs ++ 10 ∷ []) ++ rest) e
one_cutting (l ∷ ls) (m ∷ ms) f g e =
    let same = same_first l m (text_of_lines ls) (text_of_lines ms) (All-head IsLine l ls f) (All-head IsLine m ms g)
    (sym (append_assoc l (10 ∷ []) (text_of_lines ls)) ∙ e ∙ append_assoc m (10 ∷ []) (text_of_lines ms)) in
    ap (λ x. x ∷ ls) same.0 ∙ ap (λ xs. m ∷ xs) (one_cutting ls ms (All-tail IsLine l ls f) (All-tail IsLine m ms g) same.1)

module _ (names : Names) (readable : AreReadable names) where
  on_one_line : (l : Line) → IsGraphLineIn names l → IsLine (line_words names l)
  on_one_line = graph_line_cases names (λ l. IsLine (line_words names l)) of_node of_edge
    where
      Q : List ℕ → Type 0
      Q w = IsLine w

      of_node : (a : Node) → IsNodeIn names a → IsLine (line_words names (node_line a))
      of_node a h =
          subst Q (sym (node_words_are names a))
          (All-append (λ byte. byte ≡ 10 → ⊥) (codes "node ") (node_text names a) (lacking_on_line (codes "node ") refl)
          (form_on_one_line (node_text names a) (readable.form a h)))

      of_edge : (a b : Node) → AreEndsIn names a b → IsLine (line_words names (edge_line a b))
      of_edge a b h =
          subst Q (sym (edge_words_are names a b))
          (All-append (λ byte. byte ≡ 10 → ⊥) (codes "edge ") (ends_words names a b) (lacking_on_line (codes "edge ") refl)
          (All-append (λ byte. byte ≡ 10 → ⊥) (node_text names a) (space ∷ node_text names b) (form_on_one_line (node_text names a) (readable.form a h.0))
          (All-cons (λ byte. byte ≡ 10 → ⊥) space (node_text names b) (λ e. cc) (form_on_one_line (node_text names b) (readable.form b h.1)))))

  lines_on_lines : (ls : List Line) → AreIn names ls → All IsLine (map (line_words names) ls)
  lines_on_lines [] h = λ k d inside. absurd (omega (arith, inside))
  lines_on_lines (l ∷ ls) h = All-cons IsLine (line_words names l) (map (line_words names) ls) (on_one_line l h.0) (lines_on_lines ls h.1)

  -- the text of a graph is made of its lines
  pub made : (text : List ℕ) (g : PlainGraph) → IsTextOf names text g → IsMadeOf (AreGraphLines names) text
  made text g h = record {
    lines = map (line_words names) (graph_lines g.nodes g.edges);
    are_lines = lines_on_lines (graph_lines g.nodes g.edges) (graph_lines_in names g h.graph);
    text_is = h.text_is ∙ sym (joined_lines names (graph_lines g.nodes g.edges));
    accepted = (g, record { graph = h.graph; lines_are = refl });
  }

  -- and of no other's
  pub one_graph : (text : List ℕ) (g : PlainGraph) (lines : List (List ℕ)) (h : PlainGraph) → All IsLine lines → text ≡ text_of_lines lines
      → AreLinesOf names h lines
      → IsTextOf names text g → h ≡ g
  unfolding made
  one_graph text g lines h are_lines is taken of_text =
      let cut = one_cutting lines (map (line_words names) (graph_lines g.nodes g.edges)) are_lines (made text g of_text).are_lines
      (sym is ∙ (made text g of_text).text_is) in
      let same = same_lines names readable (graph_lines h.nodes h.edges) (graph_lines g.nodes g.edges) (graph_lines_in names h taken.graph)
      (graph_lines_in names g of_text.graph)
      (sym taken.lines_are ∙ cut) in
      let nodes : h.nodes ≡ g.nodes = sym (nodes_are h.nodes h.edges) ∙ ap nodes_in same ∙ nodes_are g.nodes g.edges in
      let edges : h.edges ≡ g.edges = sym (edges_are h.nodes h.edges) ∙ ap edges_in same ∙ edges_are g.nodes g.edges in
      ap (λ ns. graph_with ns h.edges) nodes ∙ ap (λ es. graph_with g.nodes es) edges
    where
      graph_with : List Node → List Edge → PlainGraph
      graph_with ns es = record { nodes = ns; edges = es }

same_graph : (r : Graph) (g : PlainGraph) → graph_nodes r ≡ g.nodes → graph_edges r ≡ g.edges → plain_graph r ≡ g
same_graph r g nodes edges = ap (λ ns. graph_with ns (graph_edges r)) nodes ∙ ap (λ es. graph_with g.nodes es) edges
  where
    graph_with : List Node → List Edge → PlainGraph
    graph_with ns es = record { nodes = ns; edges = es }

-- lines that were taken are the text of their graph
pub whole_read : (names : Names) (text : List ℕ) (lines : List (List ℕ)) (g : PlainGraph) (r : Graph) → graph_nodes r ≡ g.nodes → graph_edges r ≡ g.edges
    → text ≡ text_of_lines lines → AreLinesOf names g lines → IsTextOf names text (plain_graph r)
whole_read names text lines g r nodes edges is taken =
    let P : PlainGraph → Type 0 = λ h. IsTextOf names text h in
    subst P (sym (same_graph r g nodes edges)) (record {
      graph = taken.graph;
      text_is = is ∙ ap text_of_lines taken.lines_are ∙ joined_lines names (graph_lines g.nodes g.edges);
    })

-- and the text of no other
pub whole_again : (names : Names) (text : List ℕ) (lines : List (List ℕ)) (g : PlainGraph) (r : Graph) → graph_nodes r ≡ g.nodes → graph_edges r ≡ g.edges
    → All IsLine lines → text ≡ text_of_lines lines → IsTakenBy names g lines → (h : PlainGraph) → IsTextOf names text h → plain_graph r ≡ h
whole_again names text lines g r nodes edges are_lines is taken h of_text =
    same_graph r g nodes edges ∙ one_graph names taken.readable text h lines g are_lines is taken.taken of_text

-- a text within the limit is refused at a line
pub refused_read : (begins whole : List (List ℕ) → Type 0) (limit : ℕ) (text : List ℕ) (n : ℕ) → limit ≡ length text → IsRefusedBy begins whole limit text n
    → IsRefusedAt begins whole text n
refused_read begins whole limit text zero same h = absurd (let past = h.past refl in omega (arith, past, same))
refused_read begins whole limit text (suc n) same h = h.line (omega arith)

pub refused_again : (names : Names) (text : List ℕ) (n : ℕ) (g : PlainGraph) → AreReadable names
    → IsRefusedAt (AreGraphLines names) (AreGraphLines names) text n
    → IsTextOf names text g → ⊥
refused_again names text n g readable h of_text = h.no_whole (made names readable text g of_text)

-- a line that was judged: taken, it is the last of the lines
pub judged_good : {E : Type 0} (names known : Names) (old new : PlainGraph) (text : List ℕ) (result : Result Bool E)
    → IfOk result (λ taken. MatchBool taken (Takes names text old new) (Refuses names text old × (new ≡ old)))
    → (All (IsNodeIn names) old.nodes → All (IsNodeIn names) new.nodes)
    → IfOk result (λ good. good ≡ true → (lines : List (List ℕ)) → (names ≡ known) × IsTakenBy known old lines → (names ≡ known) × IsTakenBy known new
    (lines ++ text ∷ []))
judged_good names known old new text (Ok true) h named = λ e lines taken.
    (let P : Names → Type 0 = λ ns. IsTakenBy ns old lines in
    let Q : Names → Type 0 = λ ns. IsTakenBy ns new (lines ++ text ∷ []) in
    (taken.0, subst Q taken.0 (goes_on names old new text lines h named (subst P (sym taken.0) taken.1))))
judged_good names known old new text (Ok false) h named = λ e lines taken. absurd (wrong e)
  where
    wrong : false ≡ true → ⊥
    wrong e = cc
judged_good names known old new text (Err fault) h named = h

-- refused, no graph's lines go on so
pub judged_bad : {E : Type 0} (names known : Names) (old new : PlainGraph) (text : List ℕ) (result : Result Bool E)
    → IfOk result (λ taken. MatchBool taken (Takes names text old new) (Refuses names text old × (new ≡ old)))
    → IfOk result (λ good. good ≡ false → (lines : List (List ℕ)) → (names ≡ known) × IsTakenBy known old lines → AreGraphLines known (lines ++ text ∷ []) → ⊥)
judged_bad names known old new text (Ok true) h = λ e lines taken more. absurd (wrong e)
  where
    wrong : true ≡ false → ⊥
    wrong e = cc
judged_bad names known old new text (Ok false) h = λ e lines taken more.
    (let P : Names → Type 0 = λ ns. IsTakenBy ns old lines in
    let Q : Names → Type 0 = λ ns. AreGraphLines ns (lines ++ text ∷ []) in
    goes_no_further names old text lines h.0 (subst P (sym taken.0) taken.1) (subst Q (sym taken.0) more))
judged_bad names known old new text (Err fault) h = h
