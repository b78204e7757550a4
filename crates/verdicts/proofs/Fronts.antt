-- What is found of a front is of the model and of the test, and can be written.
use Rattle.std.proofs.Common.{◌≡◌, ℕ, zero, suc, ◌<◌, inl, inr, List, [], ◌∷◌, length, map, get_or, refl, sym, ◌∙◌, ap, subst, arith}
use Rattle.std.specs.Prelude.{Contains, All}
use Rattle.pc_common.{specs.{Case.{Case}, World.{Node, Edge}}, proofs.Elements.{In, in_map, contains_from_in}}
use Rattle.pc_case.specs.MicroOps.{AreMicroOps}
use Rattle.pc_syntax.specs.{Written.{stage_numbers, WrittenModel}, Observable.{IsNodeOf}}
use Rattle.pc_ground.specs.{declared.{front.Front.{Front}, version.Version.{Version}}, Keys.{key_node}, Tree.{Tree}, Numbers.{nodes_of_tree, numbered}}
use Rattle.pc_ground.{specs.{GroundTree.{ground_tree}, Stages.{plain_stage, numbers_of}, NodeForm.{names_of, IsNodeIn}}, proofs.TreeNodes.{nodes_are_of}}
use Rattle.pc_ground.proofs.FirstSeen.{numbered_lists}
use Rattle.pc_front.specs.Front.{IsFrontOf}
use Rattle.graph_text.specs.Graphs.{key_edge, graph_nodes}
use Rattle.solver.specs.{Answers.{IsAnswer}, declared.search.answer.Answer.{Answer as Found, TheVariants.{Observable as a_graph, Unobservable as a_refutation}}}
use Rattle.verdicts.specs.Verdicts.{IsWritable}
use Rattle.command_base.proofs.AskedAlike.{numbers_same, same_tree}
use Rattle.cert_check.proofs.StepNodes.{refutation_in}

placed : {X : Type 0} (xs : List X) (k : ℕ) (d : X) → k < length xs → In (get_or xs k d) xs
placed [] k d h = absurd (omega arith)
placed (x ∷ xs) zero d h = inl refl
placed (x ∷ xs) (suc k) d h = inr (placed xs k d (omega arith))

-- what holds of the images holds of the list
all_images : {X Y : Type 0} (P : Y → Type 0) (f : X → Y) (xs : List X) → ((y : Y) → Contains (map f xs) y → P y) → All (λ x. P (f x)) xs
all_images P f xs each k d inside = each (f (get_or xs k d)) (contains_from_in _ (map f xs) (in_map f (get_or xs k d) xs (placed xs k d inside)))

-- every element of a list, by what it contains
pub all_nodes : (P : Node → Type 0) (xs : List Node) → ((a : Node) → Contains xs a → P a) → All P xs
all_nodes P xs each k d inside = each (get_or xs k d) (contains_from_in (get_or xs k d) xs (placed xs k d inside))

module _ (m : WrittenModel) (c : Case) (front : Front) (is : IsFrontOf m c front) (kept : AreMicroOps c.ops) where
  kept_here : AreMicroOps front.case.ops
  kept_here = subst (λ (d : Case). AreMicroOps d.ops) (sym is.parts.case) kept

  -- each node of the tree is written by the front's names
  tree_node : (a : Node) → Contains (nodes_of_tree (ground_tree m c)) a → IsNodeIn (names_of front) a
  tree_node a in_tree =
      nodes_are_of front.case (numbers_of (map plain_stage front.stages)) front.axioms kept_here front.within a
      (subst (λ (t : Tree Node). Contains (nodes_of_tree t) a) (sym (same_tree m c front is)) in_tree)

  numbered_node : (a : Node) → Contains front.numbering a → IsNodeIn (names_of front) a
  numbered_node a in_numbering =
      tree_node a (((numbered_lists (ground_tree m c)).1 a).1
      (subst (λ (ns : List Node). Contains ns a) (front.counted ∙ ap numbered (same_tree m c front is)) in_numbering))

  numbers_are : numbers_of (map plain_stage front.stages) ≡ stage_numbers m.stages
  numbers_are = ap numbers_of is.parts.model.stages ∙ numbers_same m.stages

  -- each numbered node is of the model and of the test
  pub node_of_both : (a : Node) → Contains front.numbering a → IsNodeOf (stage_numbers m.stages) c.ops a
  node_of_both a in_numbering =
      subst (λ (d : Case). IsNodeOf (stage_numbers m.stages) d.ops a) is.parts.case
      (subst (λ ns. IsNodeOf ns front.case.ops a) numbers_are (numbered_node a in_numbering))

  pub writable : (version : Version) (found : Found) → IsAnswer version front.numbering (ground_tree m c) found → IsWritable (names_of front) found
  writable version (a_graph g) w =
      let each : (a : Node) → Contains (graph_nodes g) a → IsNodeIn (names_of front) a = λ a i. numbered_node a (w.known a i) in (
        all_images (IsNodeIn (names_of front)) key_node g.nodes each,
        all_images (λ (e : Edge). IsNodeIn (names_of front) e.0 × IsNodeIn (names_of front) e.1) key_edge g.edges
            (λ e i. let ends = w.ends e.0 e.1 i in (each e.0 ends.0, each e.1 ends.1)),
      )
  writable version (a_refutation r) is_refuted = refutation_in (names_of front) version (ground_tree m c) r is_refuted.0 tree_node
