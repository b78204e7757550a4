-- An answer to the closed axioms is the verdict on the model as written.
use Rattle.std.proofs.{Common.{◌≡◌, Bool, true, false, List, map, sym, ◌∙◌, ap, subst}, lemmas.List.Elements.{All-weaker, filter_passes}}
use Rattle.std.specs.Prelude.{Contains, All, filter}
use Rattle.pc_common.{specs.{Case.{Case}, World.{Node, World, same_node}}, proofs.{Elements.{In, contains_from_in, any_holds}, Nodes.{same_node-true}}}
use Rattle.pc_case.specs.MicroOps.{AreMicroOps}
use Rattle.pc_syntax.specs.{Written.{WrittenModel, stage_numbers}, Observable.{Observable, IsNodeOf}}
use Rattle.pc_ground.specs.{Stages.{plain_stage, plain_axioms, numbers_of, AxiomsWithin}, CutWorlds.{is_among, cut_to}, Numbers.{nodes_of_tree}}
use Rattle.pc_ground.{specs.GroundTree.{closed_ground_tree}, proofs.{CutTruth.{cut_keeps, cut_world}, TreeNodes.{nodes_are_of}}}
use Rattle.pc_ground.proofs.UnfoldedTruth.{closed_ground_tree_true}
use Rattle.pc_front.specs.{declared.model_front.ModelFront.{ModelFront}, ModelFront.{IsModelFrontOf}}
use Rattle.command_base.proofs.AskedAlike.{numbers_same}
use Rattle.sweep_command.specs.{Sweeps.{IsShown, IsAnswerTo}, SweepAnswers.{IsVerdictOn}}

among_in : (nodes : List Node) (a : Node) → is_among nodes a ≡ true → In a nodes
among_in nodes a e =
    let found = any_holds (λ b. same_node b a) nodes e in
    subst (λ b. In b nodes) (same_node-true found.0 a found.2) found.1

-- what holds of each of these nodes holds of each node of a world that is cut to them
all_cut : (P : Node → Type 0) (nodes : List Node) (w : World Node) → ((a : Node) → Contains nodes a → P a) → All P (cut_to nodes w).nodes
all_cut P nodes w each =
    let left : List Node = filter (λ a. is_among nodes a) w.nodes in
    All-weaker (λ a. is_among nodes a ≡ true) P (λ a e. each a (contains_from_in a nodes (among_in nodes a e))) left
    (filter_passes (λ a. is_among nodes a) w.nodes)

module _ (m : WrittenModel) (front : ModelFront) (of : IsModelFrontOf m front) (c : Case) (kept : AreMicroOps c.ops)
    (within : AxiomsWithin (numbers_of (map plain_stage front.stages)) (plain_axioms front.axioms)) where
  observable_shown : Observable m c → IsShown (plain_axioms front.axioms) c
  observable_shown (w, of_both, satisfied) = (w, of_both.0, sym (of.true_alike c w) ∙ satisfied)

  -- a world is cut to the nodes of the ground tree, which are all of the model and the case
  shown_observable : IsShown (plain_axioms front.axioms) c → Observable m c
  shown_observable (w, is_world, satisfied) =
      let t = closed_ground_tree c (plain_axioms front.axioms) in
      let nodes = nodes_of_tree t in
      let v = cut_to nodes w in
      let numbers : numbers_of (map plain_stage front.stages) ≡ stage_numbers m.stages = ap numbers_of of.stages ∙ numbers_same m.stages in
      let inside : (a : Node) → Contains nodes a → IsNodeOf (stage_numbers m.stages) c.ops a = λ a has.
      subst (λ ns. IsNodeOf ns c.ops a) numbers (nodes_are_of c (numbers_of (map plain_stage front.stages)) front.axioms kept within a has) in
      let truth = of.true_alike c v ∙ closed_ground_tree_true c (plain_axioms front.axioms) v ∙ sym (cut_keeps t w)
      ∙ sym (closed_ground_tree_true c (plain_axioms front.axioms) w) ∙ satisfied in
      (v, (cut_world nodes w is_world, all_cut (IsNodeOf (stage_numbers m.stages) c.ops) nodes w inside), truth)

  pub verdict_of : (b : Bool) → IsAnswerTo (plain_axioms front.axioms) c b → IsVerdictOn m c b
  verdict_of true is = shown_observable is
  verdict_of false is = λ o. is (observable_shown o)
