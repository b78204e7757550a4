-- A formula without a fault as a query makes no fault as the model's last axiom, and neither does its denial.
use Rattle.std.proofs.Common.{◌≡◌, ℕ, ◌+◌, ◌≤◌, Bool, true, false, List, [], Option, Some, None, refl, sym, ◌∙◌, ap, nat_lt, ltb-false, arith}
use Rattle.std.{proofs.lemmas.Bool.{le-ltb}, specs.{Prelude.{if◌then◌else◌}, Option.{option_or}}}
use Rattle.pc_common.specs.declared.{place.Place.{Place}, fault.Which.{Which, TheVariants.{Query}}}
use Rattle.pc_syntax.specs.{declared.limits.TheConstants.{MAX_HEIGHT, MAX_SIZE}, Written.{Written, not_, MacroAt, WrittenModel}}
use Rattle.pc_syntax.specs.{Observable.{macros_in_order, macros_of}, Fault.{Fault}, StageFaults.{first_stage_fault}}
use Rattle.pc_syntax.specs.{MacroFaults.{body_fault, first_macro_fault}, Sizes.{expanded_size, expanded_height, depth_fault, total_fault, first_size_fault}}
use Rattle.pc_syntax.{specs.{NameFaults.{name_fault, first_name_fault}, ModelFault.{first_model_fault}}, proofs.NoFault.{none_first, none_second, none_where}}
use Rattle.scope_check.{specs.QueryFaults.{filed, query_fault, unfiled}, proofs.FiledFaults.{query_faults}}
use Rattle.ask_command.specs.Queries.{first_byte, with_axiom, with_denial, first_query_fault}
use Rattle.ask_command.proofs.WithAxiom.{size_after, size_fault, macro_fault_more, size_fault_more, name_fault_more}

none_both : {A : Type 0} (a b : Option A) → a ≡ None → b ≡ None → option_or a b ≡ None
none_both None b e f = f
none_both (Some x) b e f = cc

none_there : {A : Type 0} (b : Bool) (x : A) → b ≡ false → (if b then Some x else None) ≡ None
none_there true x e = cc
none_there false x e = refl

-- what is filed nowhere is no fault
none_of_filed : (file : Which) (o : Option Fault) → filed file o ≡ None → o ≡ None
none_of_filed file None h = refl
none_of_filed file (Some f) h = cc

-- what is less high and less large has no fault either
depth_less : (at : Place) (h k : ℕ) → k ≤ h → depth_fault at h ≡ None → depth_fault at k ≡ None
depth_less at h k less none =
    let most : h ≤ MAX_HEIGHT = ltb-false MAX_HEIGHT h (none_where (nat_lt MAX_HEIGHT h) _ none) in
    none_there (nat_lt MAX_HEIGHT k) _ (le-ltb MAX_HEIGHT k (omega (arith, most, less)))

total_less : (at : Place) (h k : ℕ) → k ≤ h → total_fault at h ≡ None → total_fault at k ≡ None
total_less at h k less none =
    let most : h ≤ MAX_SIZE = ltb-false MAX_SIZE h (none_where (nat_lt MAX_SIZE h) _ none) in
    none_there (nat_lt MAX_SIZE k) _ (le-ltb MAX_SIZE k (omega (arith, most, less)))

size_less : (ms : List MacroAt) (before : ℕ) (at : Place) (f : Written) → size_fault ms before at (not_ f) ≡ None → size_fault ms before at f ≡ None
size_less ms before at f none =
    let h = expanded_height ms f in
    let s = expanded_size ms f in
    let depth = depth_fault at (1 + h) in
    let total = total_fault at (before + (1 + s)) in
    none_both (depth_fault at h) (total_fault at (before + s))
    (depth_less at (1 + h) h (omega arith) (none_first depth total none))
    (total_less at (before + (1 + s)) (before + s) (omega arith) (none_second depth total none))

-- the faults of a model by their groups
parts_none : (m : WrittenModel) → first_model_fault m ≡ None
    → (first_stage_fault m ≡ None) × (first_macro_fault m ≡ None) × (first_size_fault m ≡ None) × (first_name_fault m ≡ None)
parts_none m none =
    let stages = first_stage_fault m in
    let macros = first_macro_fault m in
    let sizes = first_size_fault m in
    let names = first_name_fault m in
    let later : option_or macros (option_or sizes names) ≡ None = none_second stages (option_or macros (option_or sizes names)) none in
    let last : option_or sizes names ≡ None = none_second macros (option_or sizes names) later in (
      none_first stages (option_or macros (option_or sizes names)) none,
      none_first macros (option_or sizes names) later,
      none_first sizes names last,
      none_second sizes names last,
    )

none_of_parts : (m : WrittenModel) → first_stage_fault m ≡ None → first_macro_fault m ≡ None → first_size_fault m ≡ None → first_name_fault m ≡ None
    → first_model_fault m ≡ None
none_of_parts m stages macros sizes names =
    none_both (first_stage_fault m) (option_or (first_macro_fault m) (option_or (first_size_fault m) (first_name_fault m))) stages
    (none_both (first_macro_fault m) (option_or (first_size_fault m) (first_name_fault m)) macros
    (none_both (first_size_fault m) (first_name_fault m) sizes names))

module _ (m : WrittenModel) (f : Written) (sound : first_model_fault m ≡ None) (asked : first_query_fault m f ≡ None) where
  model_parts : (first_stage_fault m ≡ None) × (first_macro_fault m ≡ None) × (first_size_fault m ≡ None) × (first_name_fault m ≡ None)
  model_parts = parts_none m sound

  both_none : option_or (first_macro_fault (with_denial m f)) (first_size_fault (with_denial m f)) ≡ None
  both_none =
      let both = option_or (first_macro_fault (with_denial m f)) (first_size_fault (with_denial m f)) in
      none_of_filed Query both (none_first (filed Query both) (query_fault m.stages (macros_of m) [] (not_ f)) asked)

  denial_macros : first_macro_fault (with_denial m f) ≡ None
  denial_macros = none_first (first_macro_fault (with_denial m f)) (first_size_fault (with_denial m f)) both_none

  denial_sizes : first_size_fault (with_denial m f) ≡ None
  denial_sizes = none_second (first_macro_fault (with_denial m f)) (first_size_fault (with_denial m f)) both_none

  pub denial_names : name_fault m.stages (macros_of m) [] f ≡ None
  denial_names =
      let both = option_or (first_macro_fault (with_denial m f)) (first_size_fault (with_denial m f)) in
      sym (query_faults m.stages (macros_of m) [] f)
      ∙ ap unfiled (none_second (filed Query both) (query_fault m.stages (macros_of m) [] (not_ f)) asked)

  pub denial_faultless : first_model_fault (with_denial m f) ≡ None
  denial_faultless =
      none_of_parts (with_denial m f) model_parts.0 denial_macros denial_sizes (name_fault_more m (not_ f) model_parts.3 ∙ denial_names)

  pub axiom_faultless : first_model_fault (with_axiom m f) ≡ None
  axiom_faultless =
      let macros : body_fault (macros_in_order m) f ≡ None = sym (macro_fault_more m (not_ f) model_parts.1) ∙ denial_macros in
      let sizes : size_fault (macros_of m) (size_after (macros_of m) 0 m.items) first_byte (not_ f) ≡ None =
      sym (size_fault_more m (not_ f) model_parts.2) ∙ denial_sizes in
      none_of_parts (with_axiom m f) model_parts.0
      (macro_fault_more m f model_parts.1 ∙ macros)
      (size_fault_more m f model_parts.2 ∙ size_less (macros_of m) (size_after (macros_of m) 0 m.items) first_byte f sizes)
      (name_fault_more m f model_parts.3 ∙ denial_names)
