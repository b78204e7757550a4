-- A first part of what begins well begins well.
use Rattle.std.proofs.{Common.{◌≡◌, false, List, [], ◌∷◌, ◌++◌, refl, sym, ◌∙◌, ap, subst, append_assoc, get_or}, lemmas.List.{append-nil}}
use Rattle.std.{proofs.lemmas.List.Elements.{All-contains, Contains-append_left, Contains-get_or}, specs.Prelude.{All}}
use Rattle.pc_common.specs.{World.{Node, Edge}, Generated.{HasEnds}, Steps.{Step}, Lines.{Line, Verdict, observable, unobservable, verdict, second, end}}
use Rattle.pc_common.proofs.Elements.{in_from_contains}
use Rattle.pc_syntax.specs.Observable.{IsNodeOf}
use Rattle.pc_ground.specs.{NodeForm.{IsNodeIn}, Stages.{numbers_of}, declared.version.Version.TheVariants.{One}}
use Rattle.pc_ground.specs.Refutes.{all_signed, Branch, IsPartial, asserted}
use Rattle.graph_text.specs.Graphs.{graph_lines}
use Rattle.cert_check.{specs.Certificates.{Question, header, tree_lines, BeginsWell, in_header, in_graph, in_tree}, proofs.Lasts.{snoc_same, snoc_some}}
use Rattle.cert_check.proofs.{GraphLines.{LastOfGraph, a_node, an_edge, last_line}, TreeLines.{LastOfTree, a_version, a_step, last_tree}}
use Rattle.cert_check.proofs.BodyBegins.{BodyBegins, no_body, graph_body, tree_body, whole_graph, whole_tree, body_begins, first_line, second_line}
use Rattle.tree_check.proofs.Runs.{runs_cut}

-- what holds of all holds of each of a first part
pub all_front : {X : Type 0} (P : X → Type 0) (xs ys : List X) → All P (xs ++ ys) → All P xs
all_front P xs ys all k d inside =
    All-contains P (xs ++ ys) (get_or xs k d) all (Contains-append_left xs ys (get_or xs k d) (Contains-get_or xs k d inside))

ends_front : (nodes : List Node) (es fs : List Edge) → HasEnds nodes (es ++ fs) → HasEnds nodes es
ends_front nodes es fs ends a b listed = ends a b (Contains-append_left es fs (a, b) listed)

no_ends : (nodes : List Node) → HasEnds nodes []
no_ends nodes a b listed = absurd (in_from_contains (a, b) [] listed)

-- the body without its last line
before_body : (q : Question) (v : Verdict) (body : List Line) (l : Line) → BodyBegins q v (body ++ l ∷ []) → BeginsWell q (header q v ++ body)
before_body q v body l (no_body none) = absurd (snoc_some body l none)
before_body q v body l (graph_body seen nodes edges of_names ends is) = go (last_line nodes edges body l (sym is))
  where
    go : LastOfGraph nodes edges body l → BeginsWell q (header q v ++ body)
    go (a_node ns a more none front at) =
        let P : List Node → Type 0 = λ ms. All (IsNodeIn q.names) ms in
        in_graph ns [] (all_front (IsNodeIn q.names) ns (a ∷ []) (subst P more of_names)) (no_ends ns)
        (ap (λ (u : Verdict). header q u ++ body) seen ∙ ap (λ (ls : List Line). header q observable ++ ls) front)
    go (an_edge es e more front at) =
        let P : List Edge → Type 0 = λ fs. HasEnds nodes fs in
        in_graph nodes es of_names (ends_front nodes es (e ∷ []) (subst P more ends))
        (ap (λ (u : Verdict). header q u ++ body) seen ∙ ap (λ (ls : List Line). header q observable ++ ls) front)
before_body q v body l (tree_body unseen w steps opens run is) = go (last_tree w steps body l (sym is))
  where
    root : List Branch
    root = all_signed false (asserted q.tree 0) ∷ []

    go : LastOfTree w steps body l → BeginsWell q (header q v ++ body)
    go (a_version two none front at) =
        in_tree One [] root refl (ap (λ (u : Verdict). header q u ++ body) unseen ∙ ap (λ (ls : List Line). header q unobservable ++ ls) front)
    go (a_step ss s all front at) =
        let P : List (Step Node) → Type 0 = λ us. IsPartial w q.tree us opens in
        let parts = runs_cut w q.tree ss (s ∷ []) root opens (subst P all run) in
        in_tree w ss parts.0 parts.1 (ap (λ (u : Verdict). header q u ++ body) unseen ∙ ap (λ (ls : List Line). header q unobservable ++ ls) front)
before_body q v body l (whole_graph seen graph) =
    let is = graph.lines_are in
    let bodies : body ++ l ∷ [] ≡ graph_lines graph.nodes graph.edges ++ end ∷ [] = cc in
    let parts = snoc_same body (graph_lines graph.nodes graph.edges) l end bodies in
    let P : List Node → Type 0 = λ ns. All (IsNodeOf (numbers_of q.names.stages) q.names.ops) ns in
    in_graph graph.nodes graph.edges (subst P graph.generated.nodes_are graph.of_both.1) graph.ends
    (ap (λ (u : Verdict). header q u ++ body) seen ∙ ap (λ (ls : List Line). header q observable ++ ls) parts.0)
before_body q v body l (whole_tree unseen w tree) =
    let is = tree.lines_are in
    let bodies : body ++ l ∷ [] ≡ tree_lines w tree.steps ++ end ∷ [] = cc in
    let parts = snoc_same body (tree_lines w tree.steps) l end bodies in
    in_tree w tree.steps [] tree.refutes (ap (λ (u : Verdict). header q u ++ body) unseen ∙ ap (λ (ls : List Line). header q unobservable ++ ls) parts.0)

pub begins_before : (q : Question) (ls : List Line) (l : Line) → BeginsWell q (ls ++ l ∷ []) → BeginsWell q ls
begins_before q [] l begins = in_header observable (header q observable) refl
begins_before q (x ∷ []) l begins =
    let v = first_line q x (l ∷ []) begins in
    in_header v.0 (second v.0 q.expectation ∷ []) (ap (λ (y : Line). y ∷ second v.0 q.expectation ∷ []) v.1)
begins_before q (x ∷ y ∷ body) l begins =
    let v = first_line q x (y ∷ (body ++ l ∷ [])) begins in
    let P : Line → Type 0 = λ z. BeginsWell q (z ∷ y ∷ (body ++ l ∷ [])) in
    let with_verdict = subst P v.1 begins in
    let s = second_line q v.0 y (body ++ l ∷ []) with_verdict in
    let Q : Line → Type 0 = λ z. BeginsWell q (verdict v.0 ∷ z ∷ (body ++ l ∷ [])) in
    let with_both = subst Q s with_verdict in
    let before = before_body q v.0 body l (body_begins q v.0 q.expectation (body ++ l ∷ []) refl with_both) in
    let R : Line → Type 0 = λ z. BeginsWell q (verdict v.0 ∷ z ∷ body) in
    let S : Line → Type 0 = λ z. BeginsWell q (z ∷ y ∷ body) in
    subst S (sym v.1) (subst R (sym s) before)

pub begins_first : (q : Question) (ls more : List Line) → BeginsWell q (ls ++ more) → BeginsWell q ls
begins_first q ls [] begins = (let P : List Line → Type 0 = λ xs. BeginsWell q xs in subst P (append-nil ls) begins)
begins_first q ls (m ∷ more) begins =
    let P : List Line → Type 0 = λ xs. BeginsWell q xs in
    begins_before q ls m (begins_first q (ls ++ m ∷ []) more (subst P (sym (append_assoc ls (m ∷ []) more)) begins))
