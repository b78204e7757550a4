-- What a judge of certificates stands at, line by line as bytes.
use Rattle.std.{proofs.Common.{◌≡◌, ℕ, true, false, List, [], ◌∷◌, ◌++◌, map, refl, sym, ◌∙◌, ap, subst}, specs.Prelude.{◌↔◌}}
use Rattle.pc_common.specs.{World.{Node, Edge}, Lines.{Line, Verdict as PlainVerdict, observable, unobservable, verdict, second, end, line_words}, Steps.{Step}}
use Rattle.pc_ground.specs.declared.version.Version.{Version}
use Rattle.graph_text.specs.Graphs.{graph_lines}
use Rattle.cert_check.specs.Certificates.{Question, header, tree_lines, IsCertificate, BeginsWell, in_header, in_graph, in_tree, whole}
use Rattle.cert_check.specs.{Verdicts.{plain_verdict}, Stages.{StandsAt, GoesOn, IsStuck, is_end}, RawLines.{RawFirst, RawWhole, RawStands}}
use Rattle.cert_check.{specs.declared.stage.Stage.{Stage, TheVariants.{Start, SaidObservable, SaidUnobservable, Graph, Tree, Ended}}, proofs.Lasts.{last_map, map_snoc}}
use Rattle.cert_check.proofs.{Firsts.{begins_before}, Raws.{raw_begins}, BodyBegins.{unequal, graph_ends}, TreeLines.{tree_end}}

said_begins : (q : Question) (v : PlainVerdict) (lines : List Line) → lines ≡ verdict v ∷ [] → BeginsWell q lines
said_begins q v lines said = in_header v (second v q.expectation ∷ []) (ap (λ (ls : List Line). ls ++ second v q.expectation ∷ []) said)

-- the lines of each stage begin well
stage_begins : (q : Question) (stage : Stage) (lines : List Line) → StandsAt q stage lines → BeginsWell q lines
stage_begins q Start lines none = in_header observable (header q observable) (ap (λ (ls : List Line). ls ++ header q observable) none)
stage_begins q SaidObservable lines said = said_begins q observable lines said
stage_begins q (SaidUnobservable tree) lines (grounded, said) = said_begins q unobservable lines said
stage_begins q (Graph g) lines so_far = in_graph g.nodes g.edges so_far.of_names so_far.ends so_far.lines_are
stage_begins q (Tree o) lines so_far = in_tree so_far.version so_far.steps so_far.opens so_far.partial so_far.lines_are
stage_begins q (Ended v) lines certificate = whole (plain_verdict v) certificate

-- lines with these bytes are the known ones and one more
record OneMore (q : Question) (known : List Line) (text : List ℕ) (others : List Line) : Type 0 where
  last : Line
  are : others ≡ known ++ last ∷ []
  text_is : text ≡ line_words q.names last
  begins : BeginsWell q (known ++ last ∷ [])

one_more : (q : Question) (stage : Stage) (raws : List (List ℕ)) (text : List ℕ) (st : RawStands q stage raws) (others : List Line)
    → raws ++ text ∷ [] ≡ map (line_words q.names) others → BeginsWell q others → OneMore q st.lines text others
one_more q stage raws text st others are begins =
    let m = last_map (line_words q.names) others raws text (sym are) in
    let P : List Line → Type 0 = λ ls. BeginsWell q ls in
    let together = subst P m.2 begins in
    let same = st.only m.0 (sym m.3) (begins_before q m.0 m.1 together) in
    record {
      last = m.1;
      are = m.2 ∙ ap (λ (ls : List Line). ls ++ m.1 ∷ []) same;
      text_is = sym m.4;
      begins = (let Q : List Line → Type 0 = λ ls. BeginsWell q (ls ++ m.1 ∷ []) in subst Q same together);
    }

pub raw_goes_on : (q : Question) (old next : Stage) (raws : List (List ℕ)) (text : List ℕ) (st : RawStands q old raws) → GoesOn q st.lines text next
    → RawStands q next (raws ++ text ∷ [])
raw_goes_on q old next raws text st goes = record {
  lines = st.lines ++ goes.line ∷ [];
  are =
      ap (λ (rs : List (List ℕ)). rs ++ text ∷ []) st.are ∙ ap (λ (t : List ℕ). map (line_words q.names) st.lines ++ t ∷ []) goes.text_is
      ∙ map_snoc (line_words q.names) st.lines goes.line;
  only = λ others are begins.
      let more = one_more q old raws text st others are begins in
      more.are ∙ ap (λ (l : Line). st.lines ++ l ∷ []) (goes.only more.last more.text_is more.begins);
  begins = stage_begins q next (st.lines ++ goes.line ∷ []) goes.stands;
  stands = goes.stands;
}

pub raw_stuck : (q : Question) (old : Stage) (raws : List (List ℕ)) (text : List ℕ) (st : RawStands q old raws) → IsStuck q st.lines text
    → RawFirst q (raws ++ text ∷ []) → ⊥
raw_stuck q old raws text st stuck b =
    let exact = raw_begins q (raws ++ text ∷ []) b in
    let more = one_more q old raws text st exact.lines exact.are exact.begins in stuck more.last more.text_is more.begins

-- a certificate is read to its last line
graph_whole : (q : Question) (nodes : List Node) (edges : List Edge) (v : PlainVerdict) (lines : List Line)
    → lines ≡ header q observable ++ graph_lines nodes edges
    → IsCertificate q v lines → ⊥
graph_whole q nodes edges observable lines is graph =
    let other = graph.lines_are in
    let bodies : graph_lines nodes edges ≡ graph_lines graph.nodes graph.edges ++ end ∷ [] = cc in
    graph_ends nodes edges (graph_lines graph.nodes graph.edges) bodies
graph_whole q nodes edges unobservable lines is (u, tree) =
    let other = tree.lines_are in
    let same : observable ≡ unobservable = cc in unequal same

tree_whole : (q : Question) (w : Version) (steps : List (Step Node)) (v : PlainVerdict) (lines : List Line)
    → lines ≡ header q unobservable ++ tree_lines w steps
    → IsCertificate q v lines → ⊥
tree_whole q w steps observable lines is graph =
    let other = graph.lines_are in
    let same : observable ≡ unobservable = cc in unequal same
tree_whole q w steps unobservable lines is (u, tree) =
    let other = tree.lines_are in
    let bodies : tree_lines w steps ≡ tree_lines u tree.steps ++ end ∷ [] = cc in
    tree_end w steps (tree_lines u tree.steps) bodies

-- no certificate has one line or none
few_lines : (q : Question) (v : PlainVerdict) (lines : List Line) → IsCertificate q v lines → (lines ≡ [] → ⊥) × ((l : Line) → lines ≡ l ∷ [] → ⊥)
few_lines q observable lines graph = (let is = graph.lines_are in (λ none. cc, λ l one. cc))
few_lines q unobservable lines (u, tree) = (let is = tree.lines_are in (λ none. cc, λ l one. cc))

is_read : (q : Question) (stage : Stage) (lines : List Line) (v : PlainVerdict) → StandsAt q stage lines → IsCertificate q v lines → is_end stage ≡ true
is_read q Start lines v none certificate = absurd ((few_lines q v lines certificate).0 none)
is_read q SaidObservable lines v said certificate = absurd ((few_lines q v lines certificate).1 (verdict observable) said)
is_read q (SaidUnobservable tree) lines v said certificate = absurd ((few_lines q v lines certificate).1 (verdict unobservable) said.1)
is_read q (Graph g) lines v so_far certificate = absurd (graph_whole q g.nodes g.edges v lines so_far.lines_are certificate)
is_read q (Tree o) lines v so_far certificate = absurd (tree_whole q so_far.version so_far.steps v lines so_far.lines_are certificate)
is_read q (Ended u) lines v ended certificate = refl

ended_whole : (q : Question) (stage : Stage) (raws : List (List ℕ)) → RawStands q stage raws → is_end stage ≡ true → RawWhole q raws
ended_whole q Start raws st e = absurd (no e)
  where
    no : false ≡ true → ⊥
    no f = cc
ended_whole q SaidObservable raws st e = cc
ended_whole q (SaidUnobservable tree) raws st e = cc
ended_whole q (Graph g) raws st e = cc
ended_whole q (Tree o) raws st e = cc
ended_whole q (Ended v) raws st e = record { verdict = plain_verdict v; lines = st.lines; are = st.are; certificate = st.stands }

pub raw_done : (q : Question) (stage : Stage) (raws : List (List ℕ)) → RawStands q stage raws → (is_end stage ≡ true) ↔ RawWhole q raws
raw_done q stage raws st = (
  ended_whole q stage raws st,
  λ w.
      let same = st.only w.lines w.are (whole w.verdict w.certificate) in
      let P : List Line → Type 0 = λ ls. IsCertificate q w.verdict ls in
      is_read q stage st.lines w.verdict st.stands (subst P same w.certificate),
)

-- no line was taken
pub raw_start : (q : Question) → RawStands q Start []
raw_start q = record {
  lines = [];
  are = refl;
  begins = stage_begins q Start [] refl;
  only = λ others are begins. go others are;
  stands = refl;
}
  where
    go : (others : List Line) → [] ≡ map (line_words q.names) others → others ≡ []
    go [] e = refl
    go (l ∷ others) e = cc
