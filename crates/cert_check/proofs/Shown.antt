-- What a shown graph is to a question, and what a front's question keeps.
use Rattle.std.{proofs.Common.{◌≡◌, ◌<◌, Bool, true, false, List, map, length, sym, ◌∙◌, ap, subst, arith}, specs.Prelude.{All, ◌↔◌}}
use Rattle.pc_common.specs.World.{Node, Edge}
use Rattle.pc_case.specs.MicroOps.{AreMicroOps}
use Rattle.pc_syntax.specs.Observable.{IsNodeOf}
use Rattle.pc_ground.specs.{declared.front.Front.{Front}, NodeForm.{names_of, IsNodeIn, AreReadable}}
use Rattle.pc_ground.{specs.{Stages.{plain_stage, plain_axioms, numbers_of}, GroundTree.{closed_ground_tree}, Tree.{size_of}}, proofs.TreeNodes.{nodes_are_of}}
use Rattle.pc_ground.proofs.FlatRows.{length_rows}
use Rattle.graph_text.specs.{declared.graph.Graph.{Graph}, Graphs.{graph_nodes, graph_edges}, OpenGraphs.{PlainGraph}}
use Rattle.graph_check.specs.Shown.{IsShownOf}
use Rattle.cert_check.specs.{Questions.{question_of}, Proper.{IsAsked}, Subjects.{question_of_subject}, declared.subject.Subject.{Subject}}
use Rattle.cert_check.proofs.Nexts.{HasWorld}

shown_world : (s : Subject) (g : Graph) → All (IsNodeIn s.names) (graph_nodes g)
    → IsShownOf s.case.now (plain_axioms s.axioms.now) g → HasWorld (question_of_subject s) (graph_nodes g) (graph_edges g)
shown_world s g all shown =
    let P : List Node → Type 0 = λ ns. All (IsNodeOf (numbers_of s.names.stages) s.names.ops) ns in
    (shown.world, shown.generated, (shown.is_world, subst P (sym shown.generated.nodes_are) all), shown.satisfied)

world_shown : (s : Subject) (g : Graph) → HasWorld (question_of_subject s) (graph_nodes g) (graph_edges g)
    → IsShownOf s.case.now (plain_axioms s.axioms.now) g
world_shown s g has = record { world = has.0; generated = has.1; is_world = has.2.0; satisfied = has.3 }

pub no_world : (s : Subject) (g : Graph) (p : PlainGraph) → graph_nodes g ≡ p.nodes → graph_edges g ≡ p.edges → (b : Bool)
    → ((b ≡ true) ↔ IsShownOf s.case.now (plain_axioms s.axioms.now) g)
    → b ≡ false → HasWorld (question_of_subject s) p.nodes p.edges → ⊥
no_world s g p nodes edges b is not has =
    let P : List Node → Type 0 = λ ns. HasWorld (question_of_subject s) ns p.edges in
    let Q : List Edge → Type 0 = λ es. HasWorld (question_of_subject s) (graph_nodes g) es in
    clash (is.1 (world_shown s g (subst Q (sym edges) (subst P (sym nodes) has)))) not
  where
    clash : b ≡ true → b ≡ false → ⊥
    clash t f = (let e : true ≡ false = sym t ∙ f in cc)

pub some_world : (s : Subject) (g : Graph) (p : PlainGraph) → graph_nodes g ≡ p.nodes → graph_edges g ≡ p.edges
    → (b : Bool) → ((b ≡ true) ↔ IsShownOf s.case.now (plain_axioms s.axioms.now) g)
    → b ≡ true → All (IsNodeIn s.names) p.nodes → HasWorld (question_of_subject s) p.nodes p.edges
some_world s g p nodes edges b is true_now all =
    let P : List Node → Type 0 = λ ns. HasWorld (question_of_subject s) ns p.edges in
    let Q : List Edge → Type 0 = λ es. HasWorld (question_of_subject s) (graph_nodes g) es in
    let R : List Node → Type 0 = λ ns. All (IsNodeIn s.names) ns in
    subst P nodes (subst Q edges (shown_world s g (subst R (sym nodes) all) (is.0 true_now)))

pub asked_of : (front : Front) → AreReadable (names_of front) → AreMicroOps front.case.ops → length front.tree < 9223372036854775808
    → IsAsked (question_of front)
asked_of front readable are_ops small = record {
  readable = readable;
  named = λ a has. nodes_are_of front.case (numbers_of (map plain_stage front.stages)) front.axioms are_ops front.within a has;
  small =
      let rows : length front.tree ≡ size_of (closed_ground_tree front.case (plain_axioms front.axioms)) = ap length front.grounded
      ∙ length_rows (closed_ground_tree front.case (plain_axioms front.axioms)) in
      omega arith;
}
