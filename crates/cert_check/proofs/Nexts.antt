-- What may stand next in a certificate, by what stands so far.
use Rattle.std.proofs.{Common.{◌≡◌, inl, false, List, [], ◌∷◌, ◌++◌, refl, sym, subst}, lemmas.List.Elements.{All-contains, Contains-append_right}}
use Rattle.std.specs.Prelude.{All, Contains, IsTrue}
use Rattle.pc_common.specs.{World.{Node, Edge, World}, Generated.{HasEnds, IsGenerated}, Steps.{Step}}
use Rattle.pc_common.{specs.Lines.{Line, Verdict, observable, unobservable, node, edge, version_two, step, end}, proofs.Elements.{contains_from_in}}
use Rattle.pc_syntax.specs.Observable.{IsWorldOf}
use Rattle.pc_ground.specs.{NodeForm.{IsNodeIn}, Stages.{numbers_of}, declared.version.Version.{Version, TheVariants.{One}}}
use Rattle.pc_ground.specs.Refutes.{all_signed, Branch, Runs, IsPartial, asserted}
use Rattle.graph_text.specs.Graphs.{graph_lines}
use Rattle.cert_check.specs.Certificates.{Question, header, tree_lines, IsGraphCertificate, IsTreeCertificate, IsCertificate, BeginsWell}
use Rattle.cert_check.proofs.Lasts.{snoc_same, snoc_some}
use Rattle.cert_check.proofs.GraphLines.{LastOfGraph, a_node, an_edge, last_line, graph_same, NextOfGraph, next_node, next_edge, next_of_graph}
use Rattle.cert_check.proofs.TreeLines.{trees_same, LastOfTree, a_version, a_step, last_tree, tree_end, NextOfTree, next_version, next_step, next_tree}
use Rattle.cert_check.proofs.BodyBegins.{unequal, BodyBegins, no_body, graph_body, tree_body, whole_graph, whole_tree, body_begins, graph_ends}
use Rattle.tree_check.proofs.Runs.{runs_cut, runs_one}

-- some world that the graph generates is of both files and satisfies
abbrev pub HasWorld : Question → List Node → List Edge → Type 0
HasWorld q nodes edges =
    (world : World Node) × IsGenerated nodes edges world × IsWorldOf (numbers_of q.names.stages) q.names.ops world × IsTrue (q.satisfied world)

-- a certificate's graph is the one whose lines it has
pub graph_shown : (q : Question) (nodes : List Node) (edges : List Edge) (l : Line)
    → IsGraphCertificate q (header q observable ++ (graph_lines nodes edges ++ l ∷ [])) → (l ≡ end) × HasWorld q nodes edges
graph_shown q nodes edges l graph =
    let is = graph.lines_are in
    let bodies : graph_lines nodes edges ++ l ∷ [] ≡ graph_lines graph.nodes graph.edges ++ end ∷ [] = cc in
    let parts = snoc_same (graph_lines nodes edges) (graph_lines graph.nodes graph.edges) l end bodies in
    let same = graph_same nodes graph.nodes edges graph.edges parts.0 in
    let P : List Node → Type 0 = λ ns. IsGenerated ns graph.edges graph.world in
    let Q : List Edge → Type 0 = λ es. IsGenerated nodes es graph.world in
    (parts.1, (graph.world, subst Q (sym same.1) (subst P (sym same.0) graph.generated), graph.of_both, graph.satisfied))

pub tree_shown : (q : Question) (v : Version) (steps : List (Step Node)) (w : Version) (l : Line)
    → IsTreeCertificate q w (header q unobservable ++ (tree_lines v steps ++ l ∷ [])) → (l ≡ end) × IsPartial v q.tree steps []
tree_shown q v steps w l tree =
    let is = tree.lines_are in
    let bodies : tree_lines v steps ++ l ∷ [] ≡ tree_lines w tree.steps ++ end ∷ [] = cc in
    let parts = snoc_same (tree_lines v steps) (tree_lines w tree.steps) l end bodies in
    let same = trees_same v w steps tree.steps parts.0 in
    let P : List (Step Node) → Type 0 = λ ss. IsPartial w q.tree ss [] in
    let Q : Version → Type 0 = λ u. IsPartial u q.tree steps [] in
    (parts.1, subst Q (sym same.0) (subst P (sym same.1) tree.refutes))

-- the line after a graph's lines
pub data GraphNext (q : Question) (nodes : List Node) (edges : List Edge) (l : Line) : Type 0 where
  node_next : (a : Node) → l ≡ node a → edges ≡ [] → IsNodeIn q.names a → GraphNext q nodes edges l
  edge_next : (a b : Node) → l ≡ edge a b → Contains nodes a → Contains nodes b → GraphNext q nodes edges l
  graph_end : l ≡ end → HasWorld q nodes edges → GraphNext q nodes edges l

pub next_in_graph : (q : Question) (nodes : List Node) (edges : List Edge) (l : Line)
    → BeginsWell q (header q observable ++ (graph_lines nodes edges ++ l ∷ [])) → GraphNext q nodes edges l
next_in_graph q nodes edges l begins = go (body_begins q observable q.expectation (graph_lines nodes edges ++ l ∷ []) refl begins)
  where
    next : (ns : List Node) (es : List Edge) → All (IsNodeIn q.names) ns → HasEnds ns es → NextOfGraph nodes edges ns es l → GraphNext q nodes edges l
    next ns es of_names ends (next_node a at none more no_edges) =
        let P : List Node → Type 0 = λ ms. Contains ms a in
        node_next a at none (All-contains (IsNodeIn q.names) ns a of_names
        (subst P (sym more) (Contains-append_right nodes (a ∷ []) a (contains_from_in a (a ∷ []) (inl refl)))))
    next ns es of_names ends (next_edge a b at same more) =
        let P : List Edge → Type 0 = λ fs. Contains fs (a, b) in
        let both = ends a b (subst P (sym more) (Contains-append_right edges ((a, b) ∷ []) (a, b) (contains_from_in (a, b) ((a, b) ∷ []) (inl refl)))) in
        let Q : Node → List Node → Type 0 = λ x ms. Contains ms x in
        edge_next a b at (subst (Q a) same both.0) (subst (Q b) same both.1)

    go : BodyBegins q observable (graph_lines nodes edges ++ l ∷ []) → GraphNext q nodes edges l
    go (no_body none) = absurd (snoc_some (graph_lines nodes edges) l none)
    go (graph_body seen ns es of_names ends is) = next ns es of_names ends (next_of_graph nodes edges ns es l (sym is))
    go (tree_body other w steps opens run is) = absurd (unequal other)
    go (whole_graph seen graph) = (let r = graph_shown q nodes edges l graph in graph_end r.0 r.1)
    go (whole_tree other w tree) = absurd (unequal other)

-- the line after the lines of a refutation
pub data TreeNext (q : Question) (v : Version) (steps : List (Step Node)) (opens : List Branch) (l : Line) : Type 0 where
  version_next : l ≡ version_two → v ≡ One → steps ≡ [] → TreeNext q v steps opens l
  step_next : (s : Step Node) (next : List Branch) → l ≡ step s → Runs v q.tree (s ∷ []) opens next → TreeNext q v steps opens l
  last_next : l ≡ end → opens ≡ [] → TreeNext q v steps opens l

pub next_in_tree : (q : Question) (v : Version) (steps : List (Step Node)) (opens : List Branch) (l : Line) → IsPartial v q.tree steps opens
    → BeginsWell q (header q unobservable ++ (tree_lines v steps ++ l ∷ [])) → TreeNext q v steps opens l
next_in_tree q v steps opens l run begins = go (body_begins q unobservable q.expectation (tree_lines v steps ++ l ∷ []) refl begins)
  where
    root : List Branch
    root = all_signed false (asserted q.tree 0) ∷ []

    next : (w : Version) (rs : List (Step Node)) (rest : List Branch) → IsPartial w q.tree rs rest → NextOfTree v steps w rs l → TreeNext q v steps opens l
    next w rs rest further (next_version two none one empty at) = version_next at one empty
    next w rs rest further (next_step s same is at) =
        let P : List (Step Node) → Type 0 = λ us. IsPartial w q.tree us rest in
        let V : Version → Type 0 = λ u. IsPartial u q.tree (steps ++ s ∷ []) rest in
        let parts = runs_cut v q.tree steps (s ∷ []) root rest (subst V (sym same) (subst P is further)) in
        let one = runs_one v q.tree steps root parts.0 opens parts.1 run in
        let Q : List Branch → Type 0 = λ bs. Runs v q.tree (s ∷ []) bs rest in
        step_next s rest at (subst Q one parts.2)

    go : BodyBegins q unobservable (tree_lines v steps ++ l ∷ []) → TreeNext q v steps opens l
    go (no_body none) = absurd (snoc_some (tree_lines v steps) l none)
    go (graph_body other ns es of_names ends is) = absurd (unequal (sym other))
    go (tree_body unseen w rs rest further is) = next w rs rest further (next_tree v steps w rs l (sym is))
    go (whole_graph other graph) = absurd (unequal (sym other))
    go (whole_tree unseen w tree) =
        let r = tree_shown q v steps w l tree in
        last_next r.0 (runs_one v q.tree steps root opens [] run r.1)

-- no line stands after a whole certificate
no_graph_more : (q : Question) (nodes : List Node) (edges : List Edge) (l : Line)
    → BeginsWell q (header q observable ++ ((graph_lines nodes edges ++ end ∷ []) ++ l ∷ [])) → ⊥
no_graph_more q nodes edges l begins = go (body_begins q observable q.expectation ((graph_lines nodes edges ++ end ∷ []) ++ l ∷ []) refl begins)
  where
    before : (ns : List Node) (es : List Edge) → LastOfGraph ns es (graph_lines nodes edges ++ end ∷ []) l → ⊥
    before ns es (a_node ms a is none front at) = graph_ends ms [] (graph_lines nodes edges) (sym front)
    before ns es (an_edge fs f is front at) = graph_ends ns fs (graph_lines nodes edges) (sym front)

    go : BodyBegins q observable ((graph_lines nodes edges ++ end ∷ []) ++ l ∷ []) → ⊥
    go (no_body none) = snoc_some (graph_lines nodes edges ++ end ∷ []) l none
    go (graph_body seen ns es of_names ends is) = before ns es (last_line ns es (graph_lines nodes edges ++ end ∷ []) l (sym is))
    go (tree_body other w steps opens run is) = unequal other
    go (whole_graph seen graph) =
        let is = graph.lines_are in
        let bodies : (graph_lines nodes edges ++ end ∷ []) ++ l ∷ [] ≡ graph_lines graph.nodes graph.edges ++ end ∷ [] = cc in
        let parts = snoc_same (graph_lines nodes edges ++ end ∷ []) (graph_lines graph.nodes graph.edges) l end bodies in
        graph_ends graph.nodes graph.edges (graph_lines nodes edges) (sym parts.0)
    go (whole_tree other w tree) = unequal other

no_tree_more : (q : Question) (v : Version) (steps : List (Step Node)) (l : Line)
    → BeginsWell q (header q unobservable ++ ((tree_lines v steps ++ end ∷ []) ++ l ∷ [])) → ⊥
no_tree_more q v steps l begins = go (body_begins q unobservable q.expectation ((tree_lines v steps ++ end ∷ []) ++ l ∷ []) refl begins)
  where
    before : (w : Version) (rs : List (Step Node)) → LastOfTree w rs (tree_lines v steps ++ end ∷ []) l → ⊥
    before w rs (a_version two none front at) = snoc_some (tree_lines v steps) end front
    before w rs (a_step ss s is front at) = tree_end w ss (tree_lines v steps) (sym front)

    go : BodyBegins q unobservable ((tree_lines v steps ++ end ∷ []) ++ l ∷ []) → ⊥
    go (no_body none) = snoc_some (tree_lines v steps ++ end ∷ []) l none
    go (graph_body other ns es of_names ends is) = unequal (sym other)
    go (tree_body unseen w rs opens run is) = before w rs (last_tree w rs (tree_lines v steps ++ end ∷ []) l (sym is))
    go (whole_graph other graph) = unequal (sym other)
    go (whole_tree unseen w tree) =
        let is = tree.lines_are in
        let bodies : (tree_lines v steps ++ end ∷ []) ++ l ∷ [] ≡ tree_lines w tree.steps ++ end ∷ [] = cc in
        let parts = snoc_same (tree_lines v steps ++ end ∷ []) (tree_lines w tree.steps) l end bodies in
        tree_end w tree.steps (tree_lines v steps) (sym parts.0)

pub no_more : (q : Question) (v : Verdict) (ls : List Line) (l : Line) → IsCertificate q v ls → BeginsWell q (ls ++ l ∷ []) → ⊥
no_more q observable ls l graph begins =
    let P : List Line → Type 0 = λ xs. BeginsWell q (xs ++ l ∷ []) in
    no_graph_more q graph.nodes graph.edges l (subst P graph.lines_are begins)
no_more q unobservable ls l (v, tree) begins =
    let P : List Line → Type 0 = λ xs. BeginsWell q (xs ++ l ∷ []) in
    no_tree_more q v tree.steps l (subst P tree.lines_are begins)
