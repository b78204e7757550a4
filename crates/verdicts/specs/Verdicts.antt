-- What is decided of a model and a case, before it is written, and its text.
use Rattle.std.specs.{Prelude.{◌++◌, ℕ, List, [], codes, All}, List.{flat_map}}
use Rattle.pc_common.specs.{Case.{Case}, Lines.{Names, Verdict, observable, unobservable, verdict_text as verdict_words, second_text, lines_text}}
use Rattle.pc_common.specs.declared.status.Status.{Status, TheVariants.{Observable, Unobservable}}
use Rattle.pc_syntax.specs.Written.{WrittenModel}
use Rattle.pc_ground.specs.{GroundTree.{ground_tree}, NodeForm.{names_of}, declared.version.Version.{Version, TheVariants.{One, Two}}}
use Rattle.pc_front.specs.Front.{IsFrontOf}
use Rattle.refutation.specs.Steps.{step_text, IsStepIn}
use Rattle.graph_text.specs.Graphs.{graph_nodes, graph_edges, graph_lines, IsKeyIn, IsEdgeIn}
use Rattle.solver.specs.{Answers.{IsAnswer}, declared.search.answer.Answer.{Answer as Found, TheVariants.{Observable as a_graph, Unobservable as a_refutation}}}
use Rattle.verdicts.specs.declared.verdict.FoundVerdict.{FoundVerdict}

-- the front is that of the model and the case, and what is found is of their ground tree
pub record IsVerdict (m : WrittenModel) (c : Case) (v : FoundVerdict) : Type 0 where
  pub front_of : IsFrontOf m c v.front
  pub found : IsAnswer v.version v.front.numbering (ground_tree m c) v.found

abbrev pub kind_of_found : Found → Verdict
kind_of_found (a_graph g) = observable
kind_of_found (a_refutation r) = unobservable

abbrev pub status_of : Found → Status
status_of (a_graph g) = Observable
status_of (a_refutation r) = Unobservable

-- each node is one of these names'
abbrev pub IsWritable : Names → Found → Type 0
IsWritable names (a_graph g) = All (IsKeyIn names) g.nodes × All (IsEdgeIn names) g.edges
IsWritable names (a_refutation r) = All (IsStepIn names) r

-- the line before the steps of a refutation
abbrev pub version_text : Version → List ℕ
version_text One = []
version_text Two = codes "version 2\n"

-- what stands between the second line and the last one
abbrev pub body_text : Version → Names → Found → List ℕ
body_text version names (a_graph g) = lines_text names (graph_lines (graph_nodes g) (graph_edges g))
body_text version names (a_refutation r) = version_text version ++ flat_map (step_text names) r

abbrev pub verdict_text : FoundVerdict → List ℕ
verdict_text v =
    let kind = kind_of_found v.found in
    (verdict_words kind ++ codes "\n") ++ ((second_text kind v.front.case.expectation ++ codes "\n")
    ++ (body_text v.version (names_of v.front) v.found ++ codes "end\n"))
