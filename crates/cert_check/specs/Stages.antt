-- What each stage of reading a certificate says of the lines so far, and what the next line makes of it.
use Rattle.std.specs.Prelude.{◌≡◌, ℕ, List, [], ◌∷◌, ◌++◌, All, Bool, true, false}
use Rattle.pc_common.specs.{World.{Node}, Generated.{HasEnds}, Steps.{Step}, Lines.{Names, Line, observable, unobservable, verdict, line_words}}
use Rattle.pc_ground.specs.{NodeForm.{IsNodeIn}, Tree.{Tree as GroundTree}, declared.version.Version.{Version, TheVariants.{One}}}
use Rattle.pc_ground.specs.Refutes.{Branch, IsPartial, Runs}
use Rattle.graph_text.specs.{Graphs.{graph_lines}, OpenGraphs.{PlainGraph}}
use Rattle.refutation.specs.Reading.{IsLineOf}
use Rattle.tree_check.specs.OpenBranches.{OpenBranches, Stands}
use Rattle.cert_check.specs.{Certificates.{Question, header, tree_lines, IsCertificate, BeginsWell}, Proper.{IsAsked, IsGrounded}, Verdicts.{plain_verdict}}
use Rattle.cert_check.specs.declared.{open_tree.OpenTree.{OpenTree}, stage.Stage.{Stage, TheVariants.{Start, SaidObservable, SaidUnobservable, Graph, Tree, Ended}}}

-- a header and the lines of this graph
pub record IsGraphSoFar (q : Question) (g : PlainGraph) (lines : List Line) : Type 0 where
  pub of_names : All (IsNodeIn q.names) g.nodes
  pub ends : HasEnds g.nodes g.edges
  pub lines_are : lines ≡ header q observable ++ graph_lines g.nodes g.edges

-- a header and steps of one version, which leave these branches open; a new one has no line after the header
pub record IsTreeSoFar (q : Question) (o : OpenTree) (lines : List Line) : Type 0 where
  pub asked : IsAsked q
  pub version : Version
  pub steps : List (Step Node)
  pub opens : List Branch
  pub partial : IsPartial version q.tree steps opens
  pub stands : Stands o.branches version q.tree opens
  pub lines_are : lines ≡ header q unobservable ++ tree_lines version steps
  pub fresh : o.is_new ≡ true → (version ≡ One) × (steps ≡ [])
  pub begun : o.is_new ≡ false → version ≡ One → steps ≡ [] → ⊥

-- the lines so far are those that the stage says
abbrev pub StandsAt : Question → Stage → List Line → Type 0
StandsAt q Start lines = lines ≡ []
StandsAt q SaidObservable lines = lines ≡ verdict observable ∷ []
StandsAt q (SaidUnobservable tree) lines = IsGrounded q tree.now × (lines ≡ verdict unobservable ∷ [])
StandsAt q (Graph g) lines = IsGraphSoFar q g lines
StandsAt q (Tree o) lines = IsTreeSoFar q o lines
StandsAt q (Ended v) lines = IsCertificate q (plain_verdict v) lines

-- the text is a line that may stand next, and no other line that may has this text
pub record GoesOn (q : Question) (lines : List Line) (text : List ℕ) (next : Stage) : Type 0 where
  pub line : Line
  pub text_is : text ≡ line_words q.names line
  pub only : (other : Line) → text ≡ line_words q.names other → BeginsWell q (lines ++ other ∷ []) → other ≡ line
  pub stands : StandsAt q next (lines ++ line ∷ [])

-- no line that may stand next has this text
abbrev pub IsStuck : Question → List Line → List ℕ → Type 0
IsStuck q lines text = (line : Line) → text ≡ line_words q.names line → BeginsWell q (lines ++ line ∷ []) → ⊥

-- what came of the next line: where it is good, the stage after it stands; else it is stuck
abbrev pub HasAdvanced : Question → List Line → List ℕ → Stage → Bool → Type 0
HasAdvanced q lines text new true = GoesOn q lines text new
HasAdvanced q lines text new false = IsStuck q lines text

-- what a step line makes of the open branches: it is that of one step, which leads on; or no step with this line does
abbrev pub StepsOn : Names → Version → GroundTree Node → List Branch → List ℕ → OpenBranches → Bool → Type 0
StepsOn names v t opens text new true =
    (s : Step Node) × IsLineOf names text s × ((r : Step Node) → IsLineOf names text r → r ≡ s)
    × ((next : List Branch) × Runs v t (s ∷ []) opens next × Stands new v t next)
StepsOn names v t opens text new false =
    (s : Step Node) (next : List Branch) → IsLineOf names text s → Runs v t (s ∷ []) opens next → ⊥

-- a whole certificate was read
abbrev pub is_end : Stage → Bool
is_end Start = false
is_end SaidObservable = false
is_end (SaidUnobservable tree) = false
is_end (Graph g) = false
is_end (Tree o) = false
is_end (Ended v) = true
