-- What a certificate is: a graph whose world satisfies, or a refutation of the ground tree. And what one may begin
-- with.
use Rattle.std.specs.Prelude.{◌≡◌, Bool, List, [], ◌∷◌, ◌++◌, map, All, IsTrue, ℕ}
use Rattle.pc_common.specs.{Case.{Expectation}, World.{Node, Edge, World}, Generated.{HasEnds, IsGenerated}, Steps.{Step}}
use Rattle.pc_common.specs.Lines.{Names, Line, Verdict, observable, unobservable, verdict, second, version_two, step, end, lines_text}
use Rattle.pc_syntax.specs.Observable.{IsWorldOf}
use Rattle.pc_ground.specs.{NodeForm.{IsNodeIn}, Stages.{numbers_of}, Tree.{Tree}, declared.version.Version.{Version, TheVariants.{One, Two}}}
use Rattle.pc_ground.specs.Refutes.{Branch, IsPartial, IsRefutation}
use Rattle.graph_text.specs.Graphs.{graph_lines}

-- what a certificate is of: what its nodes are written by, what the test states, the ground tree, which worlds satisfy
pub record Question : Type 0 where
  pub names : Names
  pub expectation : Expectation
  pub tree : Tree Node
  pub satisfied : World Node → Bool

-- the verdict, and how it compares with what the test states
abbrev pub header : Question → Verdict → List Line
header q v = verdict v ∷ second v q.expectation ∷ []

abbrev pub certificate_lines : Question → Verdict → List Line → List Line
certificate_lines q v body = header q v ++ (body ++ end ∷ [])

-- the lines of a refutation of either version; those of version 2 begin with the line that says so
abbrev pub tree_lines : Version → List (Step Node) → List Line
tree_lines One steps = map step steps
tree_lines Two steps = version_two ∷ map step steps

-- the lines are those of a graph whose world satisfies
pub record IsGraphCertificate (q : Question) (lines : List Line) : Type 0 where
  pub nodes : List Node
  pub edges : List Edge
  pub lines_are : lines ≡ certificate_lines q observable (graph_lines nodes edges)
  pub ends : HasEnds nodes edges
  pub world : World Node
  pub generated : IsGenerated nodes edges world
  pub of_both : IsWorldOf (numbers_of q.names.stages) q.names.ops world
  pub satisfied : IsTrue (q.satisfied world)

-- the lines are those of a refutation of the ground tree, of this version
pub record IsTreeCertificate (q : Question) (version : Version) (lines : List Line) : Type 0 where
  pub steps : List (Step Node)
  pub lines_are : lines ≡ certificate_lines q unobservable (tree_lines version steps)
  pub refutes : IsRefutation version q.tree steps

-- the lines are a certificate of this verdict
abbrev pub IsCertificate : Question → Verdict → List Line → Type 0
IsCertificate q observable lines = IsGraphCertificate q lines
IsCertificate q unobservable lines = (version : Version) × IsTreeCertificate q version lines

-- what a certificate may begin with: a part of a header; a header and node lines, then edge lines between the listed
-- nodes; a header and the steps of a refutation so far, of one version; a whole certificate
pub data BeginsWell (q : Question) (lines : List Line) : Type 0 where
  in_header : (v : Verdict) (more : List Line) → lines ++ more ≡ header q v → BeginsWell q lines
  in_graph : (nodes : List Node) (edges : List Edge) → All (IsNodeIn q.names) nodes → HasEnds nodes edges
      → lines ≡ header q observable ++ graph_lines nodes edges → BeginsWell q lines
  in_tree : (version : Version) (steps : List (Step Node)) (opens : List Branch) → IsPartial version q.tree steps opens
      → lines ≡ header q unobservable ++ tree_lines version steps → BeginsWell q lines
  whole : (v : Verdict) → IsCertificate q v lines → BeginsWell q lines

-- the text is that of a certificate of this verdict
pub record IsCertificateText (q : Question) (v : Verdict) (text : List ℕ) : Type 0 where
  pub lines : List Line
  pub text_is : text ≡ lines_text q.names lines
  pub certificate : IsCertificate q v lines
