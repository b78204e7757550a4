-- A renamed model has the faults of the model: faults carry places and numbers, which renaming keeps.
use Rattle.std.proofs.Common.{◌≡◌, ℕ, ◌+◌, ◌==◌, Bool, true, false, List, [], ◌∷◌, ◌++◌, Option, Some, None, cond, map, option_map, if◌then◌else◌, refl, sym, ap, ◌∙◌}
use Rattle.std.{proofs.lemmas.List.{length-map, map-append}, specs.Option.{option_or}}
use Rattle.pc_common.specs.{declared.fault.FaultKind.TheVariants.{MacroAgain, ParameterAgain, MacroUnknown, MacroArguments, StageAgain}, Names.{same_name}}
use Rattle.pc_syntax.specs.declared.{term.{Word.{Word}, Arg.{Arg}}, model.StageItem.{StageItem}}
use Rattle.pc_syntax.specs.Written.{Written, not_, and_, or_, implies_, forall_, exists_, static_, nodes_, edges_, expand_, bind_, MacroAt, WrittenItem, axiom_, macro_, WrittenModel}
use Rattle.pc_syntax.specs.{Observable.{macros_in_order, macros_of}, Fault.{Fault}}
use Rattle.pc_syntax.specs.MacroFaults.{macro_with_name, word_with_name, macro_again, parameters_fault, count_fault, call_fault, body_fault, macro_fault, items_fault, first_macro_fault}
use Rattle.pc_syntax.specs.{Sizes.{depth_fault, total_fault, sizes_fault, first_size_fault}, Stages.{stage_with_number, stage_with_name}}
use Rattle.pc_syntax.specs.StageFaults.{number_fault, number_again, name_again, stage_fault, stages_fault, first_stage_fault}
use Rattle.pc_syntax.specs.Renaming.{Renaming, KeepsApart, renamed_word, renamed_arg, renamed, renamed_macro, renamed_item, renamed_stage, renamed_model}
use Rattle.pc_syntax.proofs.RenamedItems.{stage_renamed, macros_in_order_renamed, macros_renamed}
use Rattle.macro_expand.proofs.RenamedExpansions.{size_renamed, height_renamed}

-- a look-up that finds the renamed one at the same test
found : {A B : Type 0} (f : A → B) (b c : Bool) (x : A) (o : Option A) (p : Option B) → c ≡ b → p ≡ option_map f o
    → cond c (Some (f x)) p ≡ option_map f (cond b (Some x) o)
found {A} {B} f b c x o p test rest = ap (λ d. cond d (Some (f x)) p) test ∙ by b
  where
    by : (d : Bool) → cond d (Some (f x)) p ≡ option_map f (cond d (Some x) o)
    by true = refl
    by false = rest

-- what is told of the renamed one is told of the one
told : {A C : Type 0} (g : A → C) (f : A → A) (o : Option A) → ((x : A) → g (f x) ≡ g x)
    → option_map g (option_map f o) ≡ option_map g o
told g f None same = refl
told g f (Some x) same = ap Some (same x)

-- the fault of a later one, given the earlier one of its name or number
abbrev macro_later : Word → MacroAt → Fault
macro_later name m = (MacroAgain m.name.at name.at, name.at)

abbrev parameter_later : Word → Word → Fault
parameter_later w e = (ParameterAgain e.at w.at, w.at)

abbrev number_later : StageItem → StageItem → Fault
number_later s e = (StageAgain e.number_at s.number_at, s.number_at)

abbrev name_later : StageItem → StageItem → Fault
name_later s e = (StageAgain e.name.at s.name.at, s.name.at)

-- names that are parted as before
module _ (ρ : Renaming) (apart : KeepsApart ρ) where
  -- the macro, and the parameter, of a new name
  macro_found : (ms : List MacroAt) (name : List ℕ)
      → macro_with_name (map (renamed_macro ρ) ms) (ρ name) ≡ option_map (renamed_macro ρ) (macro_with_name ms name)
  macro_found [] name = refl
  macro_found (m ∷ ms) name =
      found (renamed_macro ρ) (same_name m.name.name name) (same_name (ρ m.name.name) (ρ name)) m
      (macro_with_name ms name) (macro_with_name (map (renamed_macro ρ) ms) (ρ name))
      (apart m.name.name name) (macro_found ms name)

  word_found : (ws : List Word) (name : List ℕ)
      → word_with_name (map (renamed_word ρ) ws) (ρ name) ≡ option_map (renamed_word ρ) (word_with_name ws name)
  word_found [] name = refl
  word_found (w ∷ ws) name =
      found (renamed_word ρ) (same_name w.name name) (same_name (ρ w.name) (ρ name)) w
      (word_with_name ws name) (word_with_name (map (renamed_word ρ) ws) (ρ name))
      (apart w.name name) (word_found ws name)

  -- the faults of a macro's name, of its parameters, and of an expansion
  macro_again_kept : (earlier : List MacroAt) (name : Word)
      → macro_again (map (renamed_macro ρ) earlier) (renamed_word ρ name) ≡ macro_again earlier name
  macro_again_kept earlier name =
      ap (option_map (macro_later name)) (macro_found earlier name.name)
      ∙ told (macro_later name) (renamed_macro ρ) (macro_with_name earlier name.name) (λ m. refl)

  parameter_again_kept : (earlier : List Word) (w : Word)
      → option_map (parameter_later w) (word_with_name (map (renamed_word ρ) earlier) (ρ w.name))
      ≡ option_map (parameter_later w) (word_with_name earlier w.name)
  parameter_again_kept earlier w =
      ap (option_map (parameter_later w)) (word_found earlier w.name)
      ∙ told (parameter_later w) (renamed_word ρ) (word_with_name earlier w.name) (λ e. refl)

  parameters_kept : (earlier ws : List Word)
      → parameters_fault (map (renamed_word ρ) earlier) (map (renamed_word ρ) ws) ≡ parameters_fault earlier ws
  parameters_kept earlier [] = refl
  parameters_kept earlier (w ∷ ws) =
      let rest : parameters_fault (map (renamed_word ρ) earlier ++ renamed_word ρ w ∷ []) (map (renamed_word ρ) ws)
      ≡ parameters_fault (earlier ++ w ∷ []) ws =
      ap (λ es. parameters_fault es (map (renamed_word ρ) ws)) (sym (map-append (renamed_word ρ) earlier (w ∷ [])))
      ∙ parameters_kept (earlier ++ w ∷ []) ws in
      λ i. option_or (parameter_again_kept earlier w i) (rest i)

  count_kept : (name : Word) (args : List Arg) (m : MacroAt)
      → count_fault (renamed_word ρ name) (map (renamed_arg ρ) args) (renamed_macro ρ m) ≡ count_fault name args m
  count_kept name args m =
      let counted : ℕ → ℕ → Option Fault = λ n k. if n == k then None else Some (MacroArguments n k, name.at) in
      λ i. counted (length-map args (renamed_arg ρ) i) (length-map m.parameters (renamed_word ρ) i)

  call_kept : (ms : List MacroAt) (name : Word) (args : List Arg)
      → call_fault (map (renamed_macro ρ) ms) (renamed_word ρ name) (map (renamed_arg ρ) args)
      ≡ call_fault ms name args
  call_kept ms name args =
      let more = map (renamed_arg ρ) args in
      ap (λ o. elim o [ None ↦ Some (MacroUnknown, name.at) | Some m ↦ count_fault (renamed_word ρ name) more m ])
      (macro_found ms name.name)
      ∙ by (macro_with_name ms name.name)
    where
      by : (o : Option MacroAt)
          → ◌≡◌ {A = Option Fault}
          (elim (option_map (renamed_macro ρ) o) [
            | None ↦ Some (MacroUnknown, name.at)
            | Some m ↦ count_fault (renamed_word ρ name) (map (renamed_arg ρ) args) m
          ])
          (elim o [ None ↦ Some (MacroUnknown, name.at) | Some m ↦ count_fault name args m ])
      by None = refl
      by (Some m) = count_kept name args m

  -- the first fault of the expansions in a formula
  pub body_kept : (ms : List MacroAt) (w : Written)
      → body_fault (map (renamed_macro ρ) ms) (renamed ρ w) ≡ body_fault ms w
  body_kept ms (not_ p) = body_kept ms p
  body_kept ms (and_ p q) = λ i. option_or (body_kept ms p i) (body_kept ms q i)
  body_kept ms (or_ p q) = λ i. option_or (body_kept ms p i) (body_kept ms q i)
  body_kept ms (implies_ p q) = λ i. option_or (body_kept ms p i) (body_kept ms q i)
  body_kept ms (forall_ at sort name p) = body_kept ms p
  body_kept ms (exists_ at sort name p) = body_kept ms p
  body_kept ms (static_ pred args) = refl
  body_kept ms (nodes_ ts) = refl
  body_kept ms (edges_ ts) = refl
  body_kept ms (expand_ at name args) = call_kept ms name args
  body_kept ms (bind_ at names args p) = body_kept ms p

  -- the first fault of a macro, and of a list of items
  macro_kept : (earlier : List MacroAt) (m : MacroAt)
      → macro_fault (map (renamed_macro ρ) earlier) (renamed_macro ρ m) ≡ macro_fault earlier m
  macro_kept earlier m =
      λ i. option_or (macro_again_kept earlier m.name i)
      (option_or (parameters_kept [] m.parameters i) (body_kept earlier m.body i))

  items_kept : (all earlier : List MacroAt) (items : List WrittenItem)
      → items_fault (map (renamed_macro ρ) all) (map (renamed_macro ρ) earlier) (map (renamed_item ρ) items)
      ≡ items_fault all earlier items
  items_kept all earlier [] = refl
  items_kept all earlier (axiom_ at body ∷ items) =
      λ i. option_or (body_kept all body i) (items_kept all earlier items i)
  items_kept all earlier (macro_ m ∷ items) =
      λ i. option_or (macro_kept earlier m i) (items_kept all (m ∷ earlier) items i)

  -- the first size fault of items, where the axioms before them are of the size `total` together
  sizes_kept : (ms : List MacroAt) (total : ℕ) (items : List WrittenItem)
      → sizes_fault (map (renamed_macro ρ) ms) total (map (renamed_item ρ) items) ≡ sizes_fault ms total items
  sizes_kept ms total [] = refl
  sizes_kept ms total (macro_ m ∷ items) = sizes_kept ms total items
  sizes_kept ms total (axiom_ at body ∷ items) =
      λ i. option_or (depth_fault at (height_renamed ρ apart ms body i))
      (option_or (total_fault at (total + size_renamed ρ apart ms body i))
      (sizes_kept ms (total + size_renamed ρ apart ms body i) items i))

  -- the stage of a number, and of a new name
  numbered_found : (ss : List StageItem) (n : ℕ)
      → stage_with_number (map (renamed_stage ρ) ss) n ≡ option_map (renamed_stage ρ) (stage_with_number ss n)
  numbered_found [] n = refl
  numbered_found (s ∷ ss) n =
      found (renamed_stage ρ) (s.number == n) (s.number == n) s
      (stage_with_number ss n) (stage_with_number (map (renamed_stage ρ) ss) n) refl (numbered_found ss n)

  -- the first fault of a stage, and of a list of stages
  number_again_kept : (earlier : List StageItem) (s : StageItem)
      → number_again (map (renamed_stage ρ) earlier) (renamed_stage ρ s) ≡ number_again earlier s
  number_again_kept earlier s =
      ap (option_map (number_later s)) (numbered_found earlier s.number)
      ∙ told (number_later s) (renamed_stage ρ) (stage_with_number earlier s.number) (λ e. refl)

  name_again_kept : (earlier : List StageItem) (s : StageItem)
      → name_again (map (renamed_stage ρ) earlier) (renamed_stage ρ s) ≡ name_again earlier s
  name_again_kept earlier s =
      ap (option_map (name_later s)) (stage_renamed ρ apart earlier s.name.name)
      ∙ told (name_later s) (renamed_stage ρ) (stage_with_name earlier s.name.name) (λ e. refl)

  stage_kept : (earlier : List StageItem) (s : StageItem)
      → stage_fault (map (renamed_stage ρ) earlier) (renamed_stage ρ s) ≡ stage_fault earlier s
  stage_kept earlier s =
      λ i. option_or (number_fault s) (option_or (number_again_kept earlier s i) (name_again_kept earlier s i))

  stages_kept : (earlier ss : List StageItem)
      → stages_fault (map (renamed_stage ρ) earlier) (map (renamed_stage ρ) ss) ≡ stages_fault earlier ss
  stages_kept earlier [] = refl
  stages_kept earlier (s ∷ ss) =
      let rest : stages_fault (map (renamed_stage ρ) earlier ++ renamed_stage ρ s ∷ []) (map (renamed_stage ρ) ss)
      ≡ stages_fault (earlier ++ s ∷ []) ss =
      ap (λ es. stages_fault es (map (renamed_stage ρ) ss)) (sym (map-append (renamed_stage ρ) earlier (s ∷ [])))
      ∙ stages_kept (earlier ++ s ∷ []) ss in
      λ i. option_or (stage_kept earlier s i) (rest i)

-- the first macro, size and stage fault of a model
pub macro_faults_renamed : (ρ : Renaming) → KeepsApart ρ → (m : WrittenModel)
    → first_macro_fault (renamed_model ρ m) ≡ first_macro_fault m
macro_faults_renamed ρ apart m =
    ap (λ all. items_fault all [] (map (renamed_item ρ) m.items)) (macros_in_order_renamed ρ m)
    ∙ items_kept ρ apart (macros_in_order m) [] m.items

pub size_faults_renamed : (ρ : Renaming) → KeepsApart ρ → (m : WrittenModel)
    → first_size_fault (renamed_model ρ m) ≡ first_size_fault m
size_faults_renamed ρ apart m =
    ap (λ ms. sizes_fault ms 0 (map (renamed_item ρ) m.items)) (macros_renamed ρ m)
    ∙ sizes_kept ρ apart (macros_of m) 0 m.items

pub stage_faults_renamed : (ρ : Renaming) → KeepsApart ρ → (m : WrittenModel)
    → first_stage_fault (renamed_model ρ m) ≡ first_stage_fault m
stage_faults_renamed ρ apart m = stages_kept ρ apart [] m.stages
