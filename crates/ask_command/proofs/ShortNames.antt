-- A formula that is asked of a model has the faults and the closed formula that it has beside a model with other names.
use Rattle.std.{proofs.{Common.{◌≡◌, List, [], ◌∷◌, None, map, sym, ◌∙◌, ap, subst}, lemmas.List.{map-append}}, specs.Option.{option_or}}
use Rattle.pc_common.specs.declared.fault.Which.TheVariants.{Query}
use Rattle.pc_syntax.specs.{Written.{Written, not_, axiom_, WrittenItem, WrittenModel}, Observable.{macros_of}, StageFaults.{first_stage_fault}}
use Rattle.pc_syntax.specs.{MacroFaults.{first_macro_fault}, Sizes.{first_size_fault}, Closed.{PlainClosed}}
use Rattle.pc_syntax.specs.Renaming.{Renaming, KeepsApart, renamed, renamed_stage, renamed_item, renamed_model, IsRenamed}
use Rattle.pc_syntax.proofs.RenamedItems.{macros_renamed}
use Rattle.macro_expand.proofs.RenamedFaults.{macro_faults_renamed, size_faults_renamed}
use Rattle.scope_check.{specs.QueryFaults.{filed, query_fault, IsFiledOr}, proofs.RenamedFaults.{query_fault_renamed}}
use Rattle.pc_front.{specs.{declared.model_front.FrontEnd.{FrontEnd}, ModelFront.{closed_axiom}}, proofs.ShortNames.{stage_fault_same, closing_same}}
use Rattle.ask_command.specs.{Queries.{first_byte, with_denial, first_query_fault}, Denials.{EndsWithDenial, IsFirstQueryEnd}}

module _ (ρ : Renaming) (m : WrittenModel) (f : Written) where
  -- other names change the model and the formula, each by itself
  renamed_denial : renamed_model ρ (with_denial m f) ≡ with_denial (renamed_model ρ m) (renamed ρ f)
  renamed_denial =
      let put : List WrittenItem → WrittenModel = λ items. record { stages = map (renamed_stage ρ) m.stages; items = items } in
      ap put (map-append (renamed_item ρ) m.items (axiom_ first_byte (not_ f) ∷ []))

  module _ (apart : KeepsApart ρ) where
    macros_first : option_or (first_macro_fault (with_denial (renamed_model ρ m) (renamed ρ f)))
        (first_size_fault (with_denial (renamed_model ρ m) (renamed ρ f)))
        ≡ option_or (first_macro_fault (with_denial m f)) (first_size_fault (with_denial m f))
    macros_first =
        ap (λ k. option_or (first_macro_fault k) (first_size_fault k)) (sym renamed_denial)
        ∙ (λ i. option_or (macro_faults_renamed ρ apart (with_denial m f) i) (size_faults_renamed ρ apart (with_denial m f) i))

    names_same : query_fault (map (renamed_stage ρ) m.stages) (macros_of (renamed_model ρ m)) [] (not_ (renamed ρ f))
        ≡ query_fault m.stages (macros_of m) [] (not_ f)
    names_same =
        ap (λ ms. query_fault (map (renamed_stage ρ) m.stages) ms [] (renamed ρ (not_ f))) (macros_renamed ρ m)
        ∙ query_fault_renamed ρ apart m.stages (macros_of m) [] (not_ f)

    fault_same : first_query_fault (renamed_model ρ m) (renamed ρ f) ≡ first_query_fault m f
    fault_same = λ i. option_or (filed Query (macros_first i)) (names_same i)

module _ (k n : WrittenModel) (x : IsRenamed k n) where
  pub short_stages : first_stage_fault k ≡ None → first_stage_fault n ≡ None
  short_stages none = stage_fault_same k n x ∙ none

  is_denial : (m : WrittenModel) (f : Written) → k ≡ with_denial m f → n ≡ with_denial (renamed_model x.to m) (renamed x.to f)
  is_denial m f is = x.model ∙ ap (renamed_model x.to) is ∙ renamed_denial x.to m f

  pub short_denial : EndsWithDenial k → EndsWithDenial n
  short_denial (m, f, is) = (renamed_model x.to m, renamed x.to f, is_denial m f is)

  pub short_closed : (p : PlainClosed)
      → ((m : WrittenModel) (f : Written) → n ≡ with_denial m f → (first_query_fault m f ≡ None) × (p ≡ closed_axiom m f))
      → (m : WrittenModel) (f : Written) → k ≡ with_denial m f → (first_query_fault m f ≡ None) × (p ≡ closed_axiom m f)
  short_closed p each m f is =
      let (none, closed) = each (renamed_model x.to m) (renamed x.to f) (is_denial m f is) in
      (sym (fault_same x.to m f x.apart) ∙ none, closed ∙ closing_same x.to x.apart m f)

  pub short_end : (e : FrontEnd)
      → ((m : WrittenModel) (f : Written) → n ≡ with_denial m f → IsFirstQueryEnd m f e)
      → (m : WrittenModel) (f : Written) → k ≡ with_denial m f → IsFirstQueryEnd m f e
  short_end e each m f is =
      let (file, o, first, end) = each (renamed_model x.to m) (renamed x.to f) (is_denial m f is) in
      (file, o, subst (λ fault. IsFiledOr fault file o) (fault_same x.to m f x.apart) first, end)
