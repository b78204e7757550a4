-- Lines that begin well can be written and read again.
use Rattle.std.proofs.Common.{inl, inr, suc, ◌<◌, false, List, [], ◌∷◌, map, refl, sym, subst, arith}
use Rattle.std.{proofs.lemmas.List.Elements.{All-contains, All-nil, All-cons, All-append}, specs.Prelude.{All, ◌≤◌}}
use Rattle.pc_common.specs.{World.{Node, Edge}, Generated.{HasEnds}, Steps.{Step, split, close}}
use Rattle.pc_common.specs.Lines.{Names, Line, Verdict, observable, unobservable, verdict, second, version_two, node, edge, step, end}
use Rattle.pc_common.proofs.Elements.{In, contains_from_in}
use Rattle.pc_syntax.specs.Observable.{IsNodeOf}
use Rattle.pc_ground.specs.{NodeForm.{IsNodeIn}, Stages.{numbers_of}, Tree.{Tree, either, turned, size_of}, declared.version.Version.{Version}}
use Rattle.pc_ground.specs.{declared.version.Version.TheVariants.{One, Two}, Numbers.{nodes_of_tree}, Refutes.{all_signed, Branch, Runs, IsPartial, asserted}}
use Rattle.pc_ground.proofs.{FlatRows.{subtree_size, size_pos}, Turned.{size_turned}}
use Rattle.refutation.specs.Steps.{IsLeafIn}
use Rattle.graph_text.specs.Graphs.{graph_lines}
use Rattle.cert_check.specs.Certificates.{Question, header, tree_lines, IsGraphCertificate, IsCertificate}
use Rattle.cert_check.{specs.Proper.{IsAsked}, proofs.StepNodes.{StepHas, runs_have, step_in}}

-- where it is a split, it is one of the tree
abbrev pub IsWithin : {N : Type 0} → Tree N → Step N → Type 0
IsWithin t (split negated p) = p < size_of t
IsWithin t (close l) = Unit {0}

pub runs_within : {N : Type 0} (v : Version) (t : Tree N) (steps : List (Step N)) (opens rest : List Branch) → Runs v t steps opens rest
    → All (IsWithin t) steps
runs_within v t [] opens rest r = All-nil (IsWithin t)
runs_within v t (s ∷ ss) [] rest r = absurd r
runs_within v t (split n p ∷ ss) (ps ∷ opens) rest r =
    let size = subtree_size (turned n t) p (either r.0 r.1) r.2.1 in
    All-cons (IsWithin t) (split n p) ss (omega (arith, size, size_pos (either r.0 r.1), size_turned n t)) (runs_within v t ss _ rest r.3)
runs_within v t (close l ∷ ss) (ps ∷ opens) rest r = All-cons (IsWithin t) (close l) ss tt (runs_within v t ss opens rest r.1)

-- the line's nodes are of these names, and its position has at most 64 bits
abbrev pub IsProper : Names → Line → Type 0
IsProper names (verdict v) = Unit {0}
IsProper names (second v e) = Unit {0}
IsProper names version_two = Unit {0}
IsProper names (node a) = IsNodeIn names a
IsProper names (edge a b) = IsNodeIn names a × IsNodeIn names b
IsProper names (step (split negated p)) = p ≤ 18446744073709551615
IsProper names (step (close l)) = IsLeafIn names l
IsProper names end = Unit {0}

-- a step of a question's tree has a proper line
pub proper_step : (q : Question) → IsAsked q → (s : Step Node) → StepHas (IsNodeIn q.names) s → IsWithin q.tree s → IsProper q.names (step s)
proper_step q asked (split n p) h within = (let small = asked.small in omega arith)
proper_step q asked (close l) h within = step_in q.names (close l) h

proper_steps : (q : Question) → IsAsked q → (v : Version) (steps : List (Step Node)) (opens : List Branch) → IsPartial v q.tree steps opens
    → All (IsProper q.names) (tree_lines v steps)
proper_steps q asked v steps opens run =
    of_version v
    (each steps
    (runs_have (IsNodeIn q.names) v q.tree (λ a i. asked.named a (contains_from_in a (nodes_of_tree q.tree) i)) steps
    (all_signed false (asserted q.tree 0) ∷ []) opens run)
    (runs_within v q.tree steps (all_signed false (asserted q.tree 0) ∷ []) opens run))
  where
    each : (ss : List (Step Node)) → All (StepHas (IsNodeIn q.names)) ss → All (IsWithin q.tree) ss → All (IsProper q.names) (map step ss)
    each [] h within = All-nil (IsProper q.names)
    each (s ∷ ss) h within =
        All-cons (IsProper q.names) (step s) (map step ss)
        (proper_step q asked s (All-contains (StepHas (IsNodeIn q.names)) (s ∷ ss) s h (contains_from_in s (s ∷ ss) (inl refl)))
        (All-contains (IsWithin q.tree) (s ∷ ss) s within (contains_from_in s (s ∷ ss) (inl refl))))
        (each ss (λ k d inside. h (suc k) d (omega (arith, inside))) (λ k d inside. within (suc k) d (omega (arith, inside))))

    of_version : (w : Version) → All (IsProper q.names) (map step steps) → All (IsProper q.names) (tree_lines w steps)
    of_version One all = all
    of_version Two all = All-cons (IsProper q.names) version_two (map step steps) tt all

proper_graph : (names : Names) (nodes : List Node) (edges : List Edge) → All (IsNodeIn names) nodes → HasEnds nodes edges
    → All (IsProper names) (graph_lines nodes edges)
proper_graph names nodes edges all ends =
    All-append (IsProper names) (map node nodes) (map (λ (e : Edge). edge e.0 e.1) edges)
    (each_node nodes (λ a i. All-contains (IsNodeIn names) nodes a all (contains_from_in a nodes i)))
    (each_edge edges (λ e i. let both = ends e.0 e.1
    (contains_from_in (e.0, e.1) edges i) in (All-contains (IsNodeIn names) nodes e.0 all both.0, All-contains (IsNodeIn names) nodes e.1 all both.1)))
  where
    each_node : (ns : List Node) → ((a : Node) → In a ns → IsNodeIn names a) → All (IsProper names) (map node ns)
    each_node [] h = All-nil (IsProper names)
    each_node (a ∷ ns) h = All-cons (IsProper names) (node a) (map node ns) (h a (inl refl)) (each_node ns (λ b i. h b (inr i)))

    each_edge : (es : List Edge) → ((e : Edge) → In e es → IsNodeIn names e.0 × IsNodeIn names e.1) → All (IsProper names) (map (λ (e : Edge). edge e.0 e.1) es)
    each_edge [] h = All-nil (IsProper names)
    each_edge (e ∷ es) h = All-cons (IsProper names) (edge e.0 e.1) (map (λ (f : Edge). edge f.0 f.1) es) (h e (inl refl)) (each_edge es (λ f i. h f (inr i)))

pub proper_header : (names : Names) (q : Question) (v : Verdict) → All (IsProper names) (header q v)
proper_header names q v =
    All-cons (IsProper names) (verdict v) (second v q.expectation ∷ []) tt (All-cons (IsProper names) (second v q.expectation) [] tt (All-nil (IsProper names)))

proper_end : (names : Names) → All (IsProper names) (end ∷ [])
proper_end names = All-cons (IsProper names) end [] tt (All-nil (IsProper names))

-- a certificate's lines
pub proper_seen : (q : Question) (ls : List Line) → IsGraphCertificate q ls → All (IsProper q.names) ls
proper_seen q ls graph =
    let P : List Line → Type 0 = λ xs. All (IsProper q.names) xs in
    let Q : List Node → Type 0 = λ ns. All (IsNodeOf (numbers_of q.names.stages) q.names.ops) ns in
    let body = proper_graph q.names graph.nodes graph.edges (subst Q graph.generated.nodes_are graph.of_both.1) graph.ends in
    subst P (sym graph.lines_are)
    (All-append (IsProper q.names) (header q observable) _ (proper_header q.names q observable)
    (All-append (IsProper q.names) (graph_lines graph.nodes graph.edges) (end ∷ []) body (proper_end q.names)))

pub proper_certificate : (q : Question) → IsAsked q → (v : Verdict) (ls : List Line) → IsCertificate q v ls → All (IsProper q.names) ls
proper_certificate q asked observable ls graph = proper_seen q ls graph
proper_certificate q asked unobservable ls (v, tree) =
    let P : List Line → Type 0 = λ xs. All (IsProper q.names) xs in
    subst P (sym tree.lines_are)
    (All-append (IsProper q.names) (header q unobservable) _ (proper_header q.names q unobservable)
    (All-append (IsProper q.names) (tree_lines v tree.steps) (end ∷ []) (proper_steps q asked v tree.steps [] tree.refutes) (proper_end q.names)))
