-- A model with other names: its axioms, its macros, its stages.
use Rattle.std.proofs.Common.{◌≡◌, ℕ, Bool, true, false, List, [], ◌∷◌, ◌++◌, Option, Some, map, reverse, cond, option_map, refl, sym, ap, ◌∙◌}
use Rattle.std.{proofs.lemmas.List.{map-append, reverse-append}, specs.List.{flat_map}}
use Rattle.pc_common.specs.Names.{same_name}
use Rattle.pc_syntax.specs.{declared.{term.Word.{Word}, model.StageItem.{StageItem}}, Written.{Written, MacroAt, WrittenItem, axiom_, macro_, WrittenModel}}
use Rattle.pc_syntax.specs.{Observable.{axiom_of, macro_of, axioms_of, macros_in_order, macros_of}, Stages.{stage_with_name}}
use Rattle.pc_syntax.specs.Renaming.{Renaming, KeepsApart, renamed_word, renamed, renamed_macro, renamed_item, renamed_stage, renamed_model}

-- a list with its last member first, changed
turned_map : {A : Type 0} (f : A → A) (xs : List A) → map f (reverse xs) ≡ reverse (map f xs)
turned_map f [] = refl
turned_map f (x ∷ xs) =
    ap (map f) (reverse-append (x ∷ []) xs) ∙ map-append f (reverse xs) (x ∷ [])
    ∙ ap (λ ys. ys ++ f x ∷ []) (turned_map f xs)
    ∙ sym (reverse-append (f x ∷ []) (map f xs))

-- what is changed after a test chose it
pub changed_choice : {A : Type 0} (f : A → A) (b : Bool) (x : A) (o q : Option A) → q ≡ option_map f o
    → cond b (Some (f x)) q ≡ option_map f (cond b (Some x) o)
changed_choice f true x o q e = refl
changed_choice f false x o q e = e

module _ (ρ : Renaming) where
  -- the names of words
  pub names_renamed : (ws : List Word)
      → map (λ (w : Word). w.name) (map (renamed_word ρ) ws) ≡ map ρ (map (λ (w : Word). w.name) ws)
  names_renamed [] = refl
  names_renamed (w ∷ ws) = ap (λ (ns : List (List ℕ)). ρ w.name ∷ ns) (names_renamed ws)

  items_axioms : (items : List WrittenItem)
      → flat_map axiom_of (map (renamed_item ρ) items) ≡ map (renamed ρ) (flat_map axiom_of items)
  items_axioms [] = refl
  items_axioms (axiom_ at body ∷ items) = ap (λ (ws : List Written). renamed ρ body ∷ ws) (items_axioms items)
  items_axioms (macro_ m ∷ items) = items_axioms items

  items_macros : (items : List WrittenItem)
      → flat_map macro_of (map (renamed_item ρ) items) ≡ map (renamed_macro ρ) (flat_map macro_of items)
  items_macros [] = refl
  items_macros (axiom_ at body ∷ items) = items_macros items
  items_macros (macro_ m ∷ items) = ap (λ (ms : List MacroAt). renamed_macro ρ m ∷ ms) (items_macros items)

  pub axioms_renamed : (m : WrittenModel) → axioms_of (renamed_model ρ m) ≡ map (renamed ρ) (axioms_of m)
  axioms_renamed m = items_axioms m.items

  pub macros_in_order_renamed : (m : WrittenModel)
      → macros_in_order (renamed_model ρ m) ≡ map (renamed_macro ρ) (macros_in_order m)
  macros_in_order_renamed m = items_macros m.items

  pub macros_renamed : (m : WrittenModel) → macros_of (renamed_model ρ m) ≡ map (renamed_macro ρ) (macros_of m)
  macros_renamed m = ap reverse (items_macros m.items) ∙ sym (turned_map (renamed_macro ρ) (flat_map macro_of m.items))

module _ (ρ : Renaming) (apart : KeepsApart ρ) where
  -- the first stage with a name, with its other name
  pub stage_renamed : (stages : List StageItem) (name : List ℕ)
      → stage_with_name (map (renamed_stage ρ) stages) (ρ name) ≡ option_map (renamed_stage ρ) (stage_with_name stages name)
  stage_renamed [] name = refl
  stage_renamed (s ∷ ss) name =
      ap (λ (t : Bool). cond t (Some (renamed_stage ρ s)) (stage_with_name (map (renamed_stage ρ) ss) (ρ name)))
      (apart s.name.name name)
      ∙ changed_choice (renamed_stage ρ) (same_name s.name.name name) s (stage_with_name ss name)
      (stage_with_name (map (renamed_stage ρ) ss) (ρ name)) (stage_renamed ss name)
