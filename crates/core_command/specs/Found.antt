-- The code's core with its front, and its text.
use Rattle.std.specs.Prelude.{◌≡◌, ℕ, List, length, map, All}
use Rattle.pc_common.specs.{World.{Node}, Steps.{Step}}
use Rattle.pc_ground.specs.{declared.{front.Front.{Front}, version.Version.TheVariants.{One}}, NodeForm.{names_of}}
use Rattle.graph_text.specs.declared.graph.Graph.{Graph}
use Rattle.solver.specs.declared.search.answer.Answer.{Answer, TheVariants.{Observable as a_graph, Unobservable as a_refutation}}
use Rattle.axiom_core.specs.declared.answer.Core.{Core, TheVariants.{None as no_axioms, Minimal}}
use Rattle.verdicts.specs.Verdicts.{verdict_text, IsWritable}
use Rattle.core_command.specs.{declared.command.FoundCore.{FoundCore}, CoreTexts.{no_core_text, core_text}}

-- the certificate of what the search finds of a front
abbrev pub certificate_text : Front → Answer → List ℕ
certificate_text front found = verdict_text (record { front = front; version = One; found = found })

abbrev pub graph_text : Front × Graph → List ℕ
graph_text s = certificate_text s.0 (a_graph s.1)

abbrev pub tree_text : Front × List (Step Node) → List ℕ
tree_text r = certificate_text r.0 (a_refutation r.1)

abbrev pub text_of : Front → Core → List ℕ
text_of front (no_axioms graph) = no_core_text (graph_text (front, graph))
text_of front (Minimal kept refuted without) = core_text kept (tree_text refuted) (map graph_text without)

abbrev pub found_text : FoundCore → List ℕ
found_text f = text_of f.front f.core

-- each node of a certificate is of its front
abbrev pub CanBeWritten : Front → Core → Type 0
CanBeWritten front (no_axioms graph) = IsWritable (names_of front) (a_graph graph)
CanBeWritten front (Minimal kept refuted without) =
    IsWritable (names_of refuted.0) (a_refutation refuted.1) × All (λ s. IsWritable (names_of s.0) (a_graph s.1)) without
    × (length kept ≡ length without)

abbrev pub IsCoreWritable : FoundCore → Type 0
IsCoreWritable f = CanBeWritten f.front f.core
