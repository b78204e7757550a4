-- What a whole model and a case give parts, and parts a front.
use Rattle.std.{proofs.Common.{◌≡◌, ℕ, List, [], ◌∷◌, None, map, refl, sym, ◌∙◌, ap, subst}, specs.Option.{option_or}}
use Rattle.pc_syntax.specs.{declared.model.StageItem.{StageItem}, Written.{Written, WrittenModel, stage_numbers}, Observable.{axioms_of, macros_of}}
use Rattle.pc_syntax.specs.{Expansion.{expansion_of}, Fault.{first_fault}, StageFaults.{first_stage_fault}, MacroFaults.{first_macro_fault}}
use Rattle.pc_syntax.specs.{Sizes.{first_size_fault}, NameFaults.{name_fault, first_name_fault}, ModelFault.{first_model_fault}}
use Rattle.pc_syntax.proofs.{NoFault.{none_first, none_second}, ClosingStages.{closing_within}}
use Rattle.uspec_parser.proofs.StageNames.{stage_is_named}
use Rattle.pc_common.specs.{Case.{Case}, declared.fault.Which.{Which}}
use Rattle.litmus_reader.specs.{Answer.{IsCaseFault}, declared.fault.CaseFault.{CaseFault}}
use Rattle.litmus_reader.specs.declared.fault.CaseFault.TheVariants.{Lexical as a_lexical_fault, Syntax as a_syntax_fault, Content as a_fault_of_content, Memory as no_room}
use Rattle.pc_ground.{proofs.KeptTrees.{closed_tree}, specs.{declared.{parts.Parts.{Parts}, front.Front.{Front}}, Rows.{rows_of}}}
use Rattle.pc_ground.specs.{GroundTree.{closed_ground_tree}, Stages.{plain_stage, plain_axioms, numbers_of, AreStages, AxiomsWithin}}
use Rattle.pc_front.specs.declared.model_front.{FrontEnd.{FrontEnd, TheVariants.{Refused, Memory}}, ModelFront.{ModelFront}}
use Rattle.pc_front.specs.{Front.{SaysModel, IsFirstFrontFault, in_model, in_test, ArePartsOf, IsFrontOf, IsEnd}, Ends.{case_end}}
use Rattle.pc_front.{specs.ModelFront.{ModelOf, written_stage, closed_axiom, IsModelFrontOf, IsModelEnd}, proofs.FrontLaws.{names_expanded}}
use Rattle.pc_front.proofs.StageTables.{are_stages_of}

numbers_same : (ss : List StageItem) → numbers_of (map written_stage ss) ≡ stage_numbers ss
numbers_same [] = refl
numbers_same (s ∷ ss) = ap (λ ns. s.number ∷ ns) (numbers_same ss)

all_within : (m : WrittenModel) (ws : List Written) → first_fault (λ w. name_fault m.stages [] [] (expansion_of (macros_of m) w)) ws ≡ None
    → AxiomsWithin (stage_numbers m.stages) (map (closed_axiom m) ws)
all_within m [] f = tt
all_within m (w ∷ ws) f =
    let e = expansion_of (macros_of m) w in
    let here = name_fault m.stages [] [] e in
    let rest = first_fault (λ v. name_fault m.stages [] [] (expansion_of (macros_of m) v)) ws in
    (closing_within m.stages [] e (none_first here rest f), all_within m ws (none_second here rest f))

module _ (m : WrittenModel) (no_fault : first_model_fault m ≡ None) where
  no_stage_fault : first_stage_fault m ≡ None
  no_stage_fault =
      none_first (first_stage_fault m) (option_or (first_macro_fault m) (option_or (first_size_fault m) (first_name_fault m))) no_fault

  pub no_name_fault : first_name_fault m ≡ None
  no_name_fault =
      let sizes = option_or (first_size_fault m) (first_name_fault m) in
      let later = none_second (first_stage_fault m) (option_or (first_macro_fault m) sizes) no_fault in
      none_second (first_size_fault m) (first_name_fault m) (none_second (first_macro_fault m) sizes later)

  module _ (front : ModelFront) (of : IsModelFrontOf m front) where
    pub axioms_within : AxiomsWithin (numbers_of (map plain_stage front.stages)) (plain_axioms front.axioms)
    axioms_within =
        let numbers = ap numbers_of of.stages ∙ numbers_same m.stages in
        let within = all_within m (axioms_of m) (sym (names_expanded m (axioms_of m)) ∙ no_name_fault) in
        subst (λ ns. AxiomsWithin ns (plain_axioms front.axioms)) (sym numbers)
        (subst (AxiomsWithin (stage_numbers m.stages)) (sym of.axioms) within)

    pub are_stages : {bytes : List ℕ} → ModelOf bytes m → AreStages (map plain_stage front.stages)
    are_stages model =
        subst AreStages (sym of.stages)
        (are_stages_of m.stages no_stage_fault (λ k s at. stage_is_named model.tokens m model.tree k s at))

-- the first fault of a model is that of the two files
pub model_end : (model test : List ℕ) (e : FrontEnd) → IsModelEnd model e → IsEnd model test e
model_end model test (Refused fault) is =
    subst (λ (file : Which). IsFirstFrontFault model test (record { file = file; place = fault.place; kind = fault.kind })) (sym is.0) (in_model is.1)
model_end model test Memory is = tt

-- beside a model without fault, the first fault of a test is that of the two files
pub test_end : (model test : List ℕ) (m : WrittenModel) (fault : CaseFault) → SaysModel model m → IsCaseFault test fault → IsEnd model test (case_end fault)
test_end model test m (a_lexical_fault at) says is = in_test says (record { found = a_lexical_fault at; first = is; fault_is = refl })
test_end model test m (a_syntax_fault at) says is = in_test says (record { found = a_syntax_fault at; first = is; fault_is = refl })
test_end model test m (a_fault_of_content kind at) says is =
    in_test says (record { found = a_fault_of_content kind at; first = is; fault_is = refl })
test_end model test m no_room says is = tt

-- the parts of the model's part and the case
pub parts_are : (m : WrittenModel) (c : Case) (part : ModelFront) (parts : Parts) → IsModelFrontOf m part
    → parts.case ≡ c → parts.stages ≡ part.stages → parts.axioms ≡ part.axioms → ArePartsOf m c parts.case parts.stages parts.axioms
parts_are m c part parts of case stages axioms =
    let same : part ≡ record { stages = parts.stages; axioms = parts.axioms } =
    λ i. record { stages = sym stages i; axioms = sym axioms i } in
    record { case = case; model = subst (IsModelFrontOf m) same of }

-- a front of these parts
pub front_is : (m : WrittenModel) (c : Case) (parts : Parts) (front : Front) → ArePartsOf m c parts.case parts.stages parts.axioms
    → front.case ≡ parts.case → front.stages ≡ parts.stages → front.axioms ≡ parts.axioms → IsFrontOf m c front
front_is m c parts front of case stages axioms =
    let own : ArePartsOf m c front.case front.stages front.axioms =
    subst (λ d. ArePartsOf m c d front.stages front.axioms) (sym case)
    (subst (λ ss. ArePartsOf m c parts.case ss front.axioms) (sym stages)
    (subst (λ as_. ArePartsOf m c parts.case parts.stages as_) (sym axioms) of)) in record {
      parts = own;
      tree = front.grounded ∙ ap rows_of (
          ap (λ d. closed_ground_tree d (plain_axioms front.axioms)) own.case
          ∙ ap (closed_ground_tree c) own.model.axioms
          ∙ closed_tree m c (no_name_fault m own.model.no_fault)
          );
    }
