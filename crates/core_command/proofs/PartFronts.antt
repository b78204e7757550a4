-- The front of chosen axioms is the front of the model with just those axioms.
use Rattle.std.proofs.Common.{◌≡◌, [], map, sym, ◌∙◌, ap, subst}
use Rattle.pc_common.specs.{Case.{Case}, World.{Node}}
use Rattle.pc_case.specs.MicroOps.{AreMicroOps}
use Rattle.pc_syntax.specs.{Written.{WrittenModel}, Observable.{axioms_of}, Expansion.{expansion_of}, Closing.{closing_of}, Closed.{closed_satisfies}}
use Rattle.pc_ground.specs.{declared.{front.Front.{Front}, version.Version.TheVariants.{One}}, Tree.{Tree}, Rows.{rows_of}, GroundTree.{closed_ground_tree}}
use Rattle.pc_ground.{specs.{NodeForm.{names_of}, Stages.{plain_stage, plain_axioms}}, proofs.KeptTrees.{closed_tree}}
use Rattle.pc_front.{specs.{ModelFront.{closed_axiom}, Front.{ArePartsOf, IsFrontOf}}, proofs.{FrontLaws.{satisfied_alike}, PartsOf.{no_name_fault}}}
use Rattle.solver.specs.{Answers.{IsAnswer}, declared.search.answer.Answer.{Answer}}
use Rattle.axiom_core.{specs.{Chosen.{Choice, taken}, ModelWith.{model_with}, Cores.{IsFrontWith}}, proofs.Taking.{map_taken}}
use Rattle.axiom_core.proofs.{AxiomsWith.{axioms_with, macros_with}, Faultless.{faultless_with}}
use Rattle.search_trait.specs.Found.{IsFound}
use Rattle.command_base.proofs.AskedAlike.{same_tree}
use Rattle.verdicts.{specs.{Verdicts.{IsVerdict, IsWritable, status_of}, Certified.{IsCertified}}, proofs.VerdictTexts.{verdict_certified}}
use Rattle.verdicts.proofs.FrontVerdicts.{verdict_writable}
use Rattle.core_command.specs.Found.{certificate_text}

module _ (m : WrittenModel) (c : Case) (kept : AreMicroOps c.ops) (front : Front) (is : IsFrontOf m c front) (found : Answer) (f : IsFound front found) where
  -- what the search finds of a front is a verdict on its model
  verdict : IsVerdict m c (record { front = front; version = One; found = found })
  verdict = record { front_of = is; found = subst (λ (t : Tree Node). IsAnswer One front.numbering t found) (same_tree m c front is) f }

  pub found_certified : IsCertified One m c (status_of found) (certificate_text front found)
  found_certified = verdict_certified m c (record { front = front; version = One; found = found }) kept verdict

  pub found_writable : IsWritable (names_of front) found
  found_writable = verdict_writable m c (record { front = front; version = One; found = found }) kept verdict

module _ (m : WrittenModel) (c : Case) (front : Front) (is : IsFrontOf m c front) (keep : Choice) (part : Front) (of : IsFrontWith front keep part) where
  part_axioms : plain_axioms part.axioms ≡ map (closed_axiom (model_with keep m)) (axioms_of (model_with keep m))
  part_axioms =
      of.axioms ∙ ap (taken keep) is.parts.model.axioms ∙ sym (map_taken (closed_axiom m) keep (axioms_of m))
      ∙ ap (map (closed_axiom m)) (sym (axioms_with keep m))
      ∙ ap (λ ms. map (λ w. closing_of m.stages [] (expansion_of ms w)) (axioms_of (model_with keep m))) (sym (macros_with keep m))

  part_parts : ArePartsOf (model_with keep m) c part.case part.stages part.axioms
  part_parts =
      let no_fault = faultless_with keep m is.parts.model.no_fault in
      record {
        case = of.case ∙ is.parts.case;
        model = record {
          no_fault = no_fault;
          stages = ap (map plain_stage) of.stages ∙ is.parts.model.stages;
          axioms = part_axioms;
          true_alike = λ d w.
              satisfied_alike (model_with keep m) (no_name_fault (model_with keep m) no_fault) d w ∙ ap (λ as_. closed_satisfies as_ d w) (sym part_axioms);
        };
      }

  pub part_front : IsFrontOf (model_with keep m) c part
  part_front =
      let own = part_parts in
      record {
        parts = own;
        tree = part.grounded ∙ ap rows_of (
            ap (λ d. closed_ground_tree d (plain_axioms part.axioms)) own.case
            ∙ ap (closed_ground_tree c) own.model.axioms
            ∙ closed_tree (model_with keep m) c (no_name_fault (model_with keep m) own.model.no_fault)
            );
      }
