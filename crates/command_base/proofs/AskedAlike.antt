-- A front asks what its model and its case ask.
use Rattle.std.proofs.Common.{◌≡◌, List, [], ◌∷◌, map, refl, sym, ◌∙◌, ap}
use Rattle.pc_common.specs.Case.{Case}
use Rattle.pc_syntax.specs.{declared.model.StageItem.{StageItem}, Written.{stage_numbers, WrittenModel}, Observable.{satisfies}}
use Rattle.pc_ground.specs.{declared.front.Front.{Front}, GroundTree.{ground_tree, closed_ground_tree}, NodeForm.{names_of}}
use Rattle.pc_ground.{specs.Stages.{plain_stage, plain_axioms, numbers_of}, proofs.FlatRows.{rows_injective}}
use Rattle.pc_front.specs.{ModelFront.{written_stage}, Front.{IsFrontOf}}
use Rattle.cert_check.{specs.Questions.{question_of}, proofs.Alike.{AskAlike}}
use Rattle.command_base.specs.Questions.{names_by, question_by}

pub numbers_same : (ss : List StageItem) → numbers_of (map written_stage ss) ≡ stage_numbers ss
numbers_same [] = refl
numbers_same (s ∷ ss) = ap (λ ns. s.number ∷ ns) (numbers_same ss)

module _ (m : WrittenModel) (c : Case) (front : Front) (is : IsFrontOf m c front) where
  -- the front's tree is that of the axioms as written
  pub same_tree : closed_ground_tree front.case (plain_axioms front.axioms) ≡ ground_tree m c
  same_tree = rows_injective (closed_ground_tree front.case (plain_axioms front.axioms)) (ground_tree m c) (sym front.grounded ∙ is.tree)

  pub names_same : names_of front ≡ names_by m c
  names_same =
      ap (λ (d : Case). record { ops = d.ops; stages = map plain_stage front.stages }) is.parts.case
      ∙ ap (λ ss. record { ops = c.ops; stages = ss }) is.parts.model.stages

  pub asks_alike : AskAlike (question_of front) (question_by m c)
  asks_alike = record {
    names = names_same;
    expectation = ap (λ (d : Case). d.expectation) is.parts.case;
    tree = same_tree;
    satisfied = λ w. sym (is.parts.model.true_alike front.case w) ∙ ap (λ (d : Case). satisfies m d w) is.parts.case;
  }
