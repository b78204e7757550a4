-- A front's numbering is of its tree, in which a constant is the whole tree; and what is found of a front says of it.
use Rattle.std.{proofs.Common.{◌≡◌, List, Result, Ok, Err, sym, ◌∙◌, ap, subst}, specs.Prelude.{IfOk, IsTrue}}
use Rattle.pc_common.specs.{Steps.{Step}, World.{Node, World, IsWorld}}
use Rattle.pc_syntax.specs.Closed.{closed_satisfies}
use Rattle.pc_ground.specs.{declared.{front.Front.{Front}, version.Version.TheVariants.{One}}, Tree.{Tree}, Rows.{rows_of}, Folded.{IsFolded}}
use Rattle.pc_ground.{specs.{Numbers.{numbered}, GroundTree.{axioms_unfolded}, Stages.{plain_axioms}}, proofs.FlatRows.{rows_injective}}
use Rattle.pc_ground.proofs.{NormalForms.{normal_folded}, UnfoldedTruth.{closed_ground_tree_true}}
use Rattle.graph_text.specs.declared.graph.Graph.{Graph}
use Rattle.solver.specs.{Answers.{IsAnswer}, declared.search.answer.Answer.{Answer, TheVariants.{Observable, Unobservable}}}
use Rattle.search_trait.specs.Found.{tree_of, IsFound}

pub front_numbered : (front : Front) (t : Tree Node) → front.tree ≡ rows_of t → front.numbering ≡ numbered t
front_numbered front t is = front.counted ∙ ap numbered (rows_injective (tree_of front) t (sym front.grounded ∙ is))

pub front_folded : (front : Front) (t : Tree Node) → front.tree ≡ rows_of t → IsFolded t
front_folded front t is =
    subst IsFolded (rows_injective (tree_of front) t (sym front.grounded ∙ is)) (normal_folded (axioms_unfolded front.case (plain_axioms front.axioms)))

-- what is found of each tree of these rows is found of the front
pub found_front : {E : Type 0} (front : Front) (r : Result Answer E)
    → IfOk r (λ found. (t : Tree Node) → front.tree ≡ rows_of t → IsAnswer One front.numbering t found) → IfOk r (IsFound front)
found_front front (Ok found) is = is (tree_of front) front.grounded
found_front front (Err e) is = tt

-- a graph shows a world in which the front's axioms are true, and a refutation that there is none
pub found_world : (front : Front) (graph : Graph) → IsFound front (Observable graph)
    → (w : World Node) × IsWorld w × IsTrue (closed_satisfies (plain_axioms front.axioms) front.case w)
found_world front graph w = (w.world, w.is_world, closed_ground_tree_true front.case (plain_axioms front.axioms) w.world ∙ w.satisfied)

pub found_none : (front : Front) (steps : List (Step Node)) → IsFound front (Unobservable steps)
    → (w : World Node) → IsWorld w → IsTrue (closed_satisfies (plain_axioms front.axioms) front.case w) → ⊥
found_none front steps r = λ w is h. r.1 w is (sym (closed_ground_tree_true front.case (plain_axioms front.axioms) w) ∙ h)
