-- The front with one axiom more is the front of the model with one axiom more, and what is found of it is a verdict.
use Rattle.std.proofs.{Common.{◌≡◌, ℕ, List, [], ◌∷◌, ◌++◌, None, map, sym, ◌∙◌, ap, subst}, lemmas.List.{map-append}}
use Rattle.pc_common.specs.{Case.{Case}, World.{Node}}
use Rattle.pc_case.specs.MicroOps.{AreMicroOps}
use Rattle.pc_syntax.specs.{declared.closed.Closed.{Closed}, Written.{Written, WrittenModel, stage_numbers}, Observable.{axioms_of, macros_of}}
use Rattle.pc_syntax.specs.{Expansion.{expansion_of}, Closing.{closing_of}, Closed.{PlainClosed, plain_closed, closed_satisfies}, NameFaults.{name_fault}}
use Rattle.pc_syntax.{specs.{StagesWithin.{StagesWithin}, ModelFault.{first_model_fault}}, proofs.ClosingStages.{closing_within}}
use Rattle.pc_syntax.proofs.ExpansionLaws.{expansion_faults}
use Rattle.pc_ground.specs.{declared.{front.Front.{Front}, stage.Stage.{Stage}, version.Version.TheVariants.{One}}, Tree.{Tree}, Rows.{rows_of}}
use Rattle.pc_ground.specs.{GroundTree.{closed_ground_tree}, NodeForm.{names_of}, Stages.{plain_stage, plain_axioms, numbers_of}}
use Rattle.pc_ground.proofs.KeptTrees.{closed_tree}
use Rattle.pc_front.{specs.{ModelFront.{closed_axiom}, Front.{ArePartsOf, IsFrontOf}}, proofs.{FrontLaws.{satisfied_alike}, PartsOf.{no_name_fault}}}
use Rattle.ask_command.specs.{Queries.{with_axiom, first_query_fault}, Inquiries.{IsInquiryOf}, declared.inquiry.Inquiry.{Inquiry}, Asking.{IsFrontMore}}
use Rattle.ask_command.{specs.FoundAsks.{verdict_of}, proofs.{WithAxiom.{axioms_more, macros_same}, FaultlessQueries.{denial_names}}}
use Rattle.solver.specs.{Answers.{IsAnswer}, declared.search.answer.Answer.{Answer}}
use Rattle.search_trait.specs.Found.{IsFound}
use Rattle.command_base.proofs.AskedAlike.{numbers_same, same_tree}
use Rattle.verdicts.{specs.{Verdicts.{IsVerdict, IsWritable, status_of, verdict_text}, Certified.{IsCertified}}, proofs.VerdictTexts.{verdict_certified}}
use Rattle.verdicts.proofs.FrontVerdicts.{verdict_writable}

module _ (m : WrittenModel) (c : Case) (f : Written) (stages : List Stage) (axioms : List Closed) (case : Case)
    (is : ArePartsOf m c case stages axioms) (sound : first_model_fault (with_axiom m f) ≡ None)
    (front : Front) (of : IsFrontMore case stages (plain_axioms axioms) (closed_axiom m f) front) where
  more_axioms : plain_axioms front.axioms ≡ map (closed_axiom (with_axiom m f)) (axioms_of (with_axiom m f))
  more_axioms =
      of.axioms ∙ ap (λ ps. ps ++ closed_axiom m f ∷ []) is.model.axioms
      ∙ sym (map-append (closed_axiom m) (axioms_of m) (f ∷ []))
      ∙ ap (map (closed_axiom m)) (sym (axioms_more m f))
      ∙ ap (λ ms. map (λ w. closing_of m.stages [] (expansion_of ms w)) (axioms_of (with_axiom m f))) (sym (macros_same m f))

  more_parts : ArePartsOf (with_axiom m f) c front.case front.stages front.axioms
  more_parts = record {
    case = of.case ∙ is.case;
    model = record {
      no_fault = sound;
      stages = ap (map plain_stage) of.stages_are ∙ is.model.stages;
      axioms = more_axioms;
      true_alike = λ d w.
          satisfied_alike (with_axiom m f) (no_name_fault (with_axiom m f) sound) d w ∙ ap (λ as_. closed_satisfies as_ d w) (sym more_axioms);
    };
  }

  pub more_front : IsFrontOf (with_axiom m f) c front
  more_front =
      let own = more_parts in
      record {
        parts = own;
        tree = front.grounded ∙ ap rows_of (
            ap (λ d. closed_ground_tree d (plain_axioms front.axioms)) own.case
            ∙ ap (closed_ground_tree c) own.model.axioms
            ∙ closed_tree (with_axiom m f) c (no_name_fault (with_axiom m f) own.model.no_fault)
            );
      }

-- what is found of the front of a model and a case is a verdict on them
module _ (m : WrittenModel) (c : Case) (kept : AreMicroOps c.ops) (front : Front) (is : IsFrontOf m c front) (found : Answer) (f : IsFound front found) where
  a_verdict : IsVerdict m c (record { front = front; version = One; found = found })
  a_verdict = record { front_of = is; found = subst (λ (t : Tree Node). IsAnswer One front.numbering t found) (same_tree m c front is) f }

  pub found_certified : IsCertified One m c (status_of found) (verdict_text (verdict_of (front, found)))
  found_certified = verdict_certified m c (record { front = front; version = One; found = found }) kept a_verdict

  pub found_writable : IsWritable (names_of front) found
  found_writable = verdict_writable m c (record { front = front; version = One; found = found }) kept a_verdict

-- the formula that is asked names no stages but those of the parts
module _ (m : WrittenModel) (c : Case) (f : Written) (asked : Inquiry) (is : IsInquiryOf m c f asked)
    (sound : first_model_fault m ≡ None) (askable : first_query_fault m f ≡ None) where
  numbers_are : numbers_of (map plain_stage asked.parts.stages) ≡ stage_numbers m.stages
  numbers_are = ap numbers_of is.parts_of.model.stages ∙ numbers_same m.stages

  no_fault_expanded : name_fault m.stages [] [] (expansion_of (macros_of m) f) ≡ None
  no_fault_expanded = sym (expansion_faults m.stages (macros_of m) [] f) ∙ denial_names m f sound askable

  pub formula_within : StagesWithin (numbers_of (map plain_stage asked.parts.stages)) (plain_closed asked.formula.body)
  formula_within =
      let P : PlainClosed → Type 0 = λ p. StagesWithin (stage_numbers m.stages) p in
      let Q : List ℕ → Type 0 = λ ns. StagesWithin ns (plain_closed asked.formula.body) in
      subst Q (sym numbers_are) (subst P (sym is.formula_is)
      (closing_within m.stages [] (expansion_of (macros_of m) f) no_fault_expanded))
