-- What may stand next in a certificate, and that a first part of what begins well begins well.
use Rattle.std.{proofs.Common.{◌≡◌, List, [], ◌∷◌, ◌++◌, refl, subst}, specs.Prelude.{All}}
use Rattle.pc_common.specs.{Case.{Expectation}, World.{Node, Edge}, Generated.{HasEnds}, Steps.{Step}}
use Rattle.pc_common.specs.Lines.{Line, Verdict, observable, unobservable, verdict, second, node, edge, end}
use Rattle.pc_ground.specs.{declared.version.Version.{Version}, NodeForm.{IsNodeIn}, Refutes.{Branch, IsPartial}}
use Rattle.graph_text.specs.Graphs.{graph_lines}
use Rattle.cert_check.specs.Certificates.{Question, header, tree_lines, IsGraphCertificate, IsTreeCertificate, BeginsWell, in_header, in_graph, in_tree, whole}
use Rattle.cert_check.proofs.GraphLines.{LastOfGraph, a_node, an_edge, last_line}

-- what stands after a header that begins well
pub data BodyBegins (q : Question) (v : Verdict) (body : List Line) : Type 0 where
  no_body : body ≡ [] → BodyBegins q v body
  graph_body : v ≡ observable → (nodes : List Node) (edges : List Edge) → All (IsNodeIn q.names) nodes → HasEnds nodes edges
      → body ≡ graph_lines nodes edges → BodyBegins q v body
  tree_body : v ≡ unobservable → (w : Version) (steps : List (Step Node)) (opens : List Branch) → IsPartial w q.tree steps opens
      → body ≡ tree_lines w steps → BodyBegins q v body
  whole_graph : v ≡ observable → IsGraphCertificate q (header q v ++ body) → BodyBegins q v body
  whole_tree : v ≡ unobservable → (w : Version) → IsTreeCertificate q w (header q v ++ body) → BodyBegins q v body

nothing_left : {X : Type 0} (xs ys : List X) → xs ++ ys ≡ [] → xs ≡ []
nothing_left [] ys e = refl
nothing_left (x ∷ xs) ys e = cc

pub body_begins : (q : Question) (v : Verdict) (e : Expectation) (body : List Line) → e ≡ q.expectation
    → BeginsWell q (verdict v ∷ second v e ∷ body) → BodyBegins q v body
body_begins q v e body same (in_header u more is) = (let rest : body ++ more ≡ [] = cc in no_body (nothing_left body more rest))
body_begins q v e body same (in_graph nodes edges of_names ends is) =
    let seen : v ≡ observable = cc in let rest : body ≡ graph_lines nodes edges = cc in graph_body seen nodes edges of_names ends rest
body_begins q v e body same (in_tree w steps opens run is) =
    let unseen : v ≡ unobservable = cc in let rest : body ≡ tree_lines w steps = cc in tree_body unseen w steps opens run rest
body_begins q v e body same (whole observable graph) =
    let is = graph.lines_are in
    let seen : v ≡ observable = cc in
    whole_graph seen (subst (λ (f : Expectation). IsGraphCertificate q (verdict v ∷ second v f ∷ body)) same graph)
body_begins q v e body same (whole unobservable (w, tree)) =
    let is = tree.lines_are in
    let unseen : v ≡ unobservable = cc in
    whole_tree unseen w (subst (λ (f : Expectation). IsTreeCertificate q w (verdict v ∷ second v f ∷ body)) same tree)

-- the first line is a verdict, and the second is that verdict's
pub first_line : (q : Question) (l : Line) (ls : List Line) → BeginsWell q (l ∷ ls) → (v : Verdict) × (l ≡ verdict v)
first_line q l ls (in_header v more is) = (v, cc)
first_line q l ls (in_graph nodes edges of_names ends is) = (observable, cc)
first_line q l ls (in_tree w steps opens run is) = (unobservable, cc)
first_line q l ls (whole observable graph) = (let is = graph.lines_are in (observable, cc))
first_line q l ls (whole unobservable (w, tree)) = (let is = tree.lines_are in (unobservable, cc))

pub second_line : (q : Question) (v : Verdict) (l : Line) (ls : List Line) → BeginsWell q (verdict v ∷ l ∷ ls) → l ≡ second v q.expectation
second_line q v l ls (in_header u more is) = cc
second_line q v l ls (in_graph nodes edges of_names ends is) = cc
second_line q v l ls (in_tree w steps opens run is) = cc
second_line q v l ls (whole observable graph) = (let is = graph.lines_are in cc)
second_line q v l ls (whole unobservable (w, tree)) = (let is = tree.lines_are in cc)

-- the two verdicts differ
pub unequal : observable ≡ unobservable → ⊥
unequal e = cc

-- no line of a graph is the last line of a certificate
end_no_node : (a : Node) → end ≡ node a → ⊥
end_no_node a e = cc

end_no_edge : (a b : Node) → end ≡ edge a b → ⊥
end_no_edge a b e = cc

pub graph_ends : (ns : List Node) (es : List Edge) (ls : List Line) → graph_lines ns es ≡ ls ++ end ∷ [] → ⊥
graph_ends ns es ls e = go (last_line ns es ls end e)
  where
    go : LastOfGraph ns es ls end → ⊥
    go (a_node ms a is none before at) = end_no_node a at
    go (an_edge fs f is before at) = end_no_edge f.0 f.1 at
