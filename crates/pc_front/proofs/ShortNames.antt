-- A model with other names, of which two are one exactly where they were, has the faults and the closed axioms of the model.
use Rattle.std.{proofs.Common.{◌≡◌, List, [], ◌∷◌, map, refl, ◌∙◌, ap}, specs.Option.{option_or}}
use Rattle.pc_syntax.specs.{Written.{Written, WrittenModel}, Observable.{axioms_of, macros_of}, StageFaults.{first_stage_fault}, NameFaults.{first_name_fault}}
use Rattle.pc_syntax.specs.{ModelFault.{first_model_fault}, Expansion.{expansion_of}, Closing.{closing_of}}
use Rattle.pc_syntax.specs.Renaming.{Renaming, KeepsApart, renamed, renamed_stage, renamed_model, IsRenamed}
use Rattle.pc_syntax.proofs.RenamedItems.{axioms_renamed, macros_renamed}
use Rattle.macro_expand.proofs.{RenamedExpansions.{expansion_renamed}, RenamedFaults.{stage_faults_renamed, macro_faults_renamed, size_faults_renamed}}
use Rattle.scope_check.proofs.{RenamedClosings.{closing_renamed}, RenamedFaults.{first_fault_renamed}}
use Rattle.pc_front.specs.ModelFront.{closed_axiom}

module _ (ρ : Renaming) (apart : KeepsApart ρ) (m : WrittenModel) where
  faults : first_model_fault (renamed_model ρ m) ≡ first_model_fault m
  faults =
      λ i. option_or (stage_faults_renamed ρ apart m i)
      (option_or (macro_faults_renamed ρ apart m i)
      (option_or (size_faults_renamed ρ apart m i) (first_fault_renamed ρ apart m i)))

  pub closing_same : (w : Written) → closed_axiom (renamed_model ρ m) (renamed ρ w) ≡ closed_axiom m w
  closing_same w =
      let stages = map (renamed_stage ρ) m.stages in
      ap (λ ms. closing_of stages [] (expansion_of ms (renamed ρ w))) (macros_renamed ρ m)
      ∙ ap (closing_of stages []) (expansion_renamed ρ apart (macros_of m) w)
      ∙ closing_renamed ρ apart m.stages [] (expansion_of (macros_of m) w)

  closings : (ws : List Written) → map (closed_axiom (renamed_model ρ m)) (map (renamed ρ) ws) ≡ map (closed_axiom m) ws
  closings [] = refl
  closings (w ∷ ws) = λ i. closing_same w i ∷ closings ws i

  axioms : map (closed_axiom (renamed_model ρ m)) (axioms_of (renamed_model ρ m)) ≡ map (closed_axiom m) (axioms_of m)
  axioms = ap (map (closed_axiom (renamed_model ρ m))) (axioms_renamed ρ m) ∙ closings (axioms_of m)

module _ (m n : WrittenModel) (x : IsRenamed m n) where
  pub stage_fault_same : first_stage_fault n ≡ first_stage_fault m
  stage_fault_same = ap first_stage_fault x.model ∙ stage_faults_renamed x.to x.apart m

  pub name_fault_same : first_name_fault n ≡ first_name_fault m
  name_fault_same = ap first_name_fault x.model ∙ first_fault_renamed x.to x.apart m

  pub fault_same : first_model_fault n ≡ first_model_fault m
  fault_same = ap first_model_fault x.model ∙ faults x.to x.apart m

  pub axioms_same : map (closed_axiom n) (axioms_of n) ≡ map (closed_axiom m) (axioms_of m)
  axioms_same = ap (λ k. map (closed_axiom k) (axioms_of k)) x.model ∙ axioms x.to x.apart m
