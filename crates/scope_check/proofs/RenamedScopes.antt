-- Scopes and stages with other names: what is looked up in them is what it was.
use Rattle.std.proofs.Common.{◌≡◌, ℕ, ◌+◌, Bool, List, [], ◌∷◌, ◌++◌, Option, Some, None, length, map, cond, option_map, refl, sym, ap, ◌∙◌}
use Rattle.std.proofs.lemmas.List.{length-map, map-append}
use Rattle.pc_common.specs.Names.{same_name}
use Rattle.pc_syntax.specs.declared.term.{Sort.{Sort, TheVariants.{Core}}, Word.{Word}, Arg.{Arg, TheVariants.{Word as word_arg, Number as number_arg}}}
use Rattle.pc_syntax.specs.{declared.model.StageItem.{StageItem}, Written.{MacroAt}, Stages.{stage_with_name, stage_number_of}}
use Rattle.pc_syntax.specs.{Scope.{Binding, Scope, binding_of, sort_of_arg, quantified_in, bindings_from, bound_in}, Closing.{slot_of}}
use Rattle.pc_syntax.specs.Renaming.{Renaming, KeepsApart, renamed_word, renamed_arg, renamed_macro, renamed_stage}
use Rattle.pc_syntax.proofs.RenamedItems.{changed_choice, stage_renamed}
use Rattle.scope_check.specs.Renaming.{renamed_binding}

-- a scope, arguments, stages and macros with other names
abbrev pub new_scope : Renaming → Scope → Scope
new_scope ρ scope = map (renamed_binding ρ) scope

abbrev pub new_args : Renaming → List Arg → List Arg
new_args ρ args = map (renamed_arg ρ) args

abbrev pub new_stages : Renaming → List StageItem → List StageItem
new_stages ρ stages = map (renamed_stage ρ) stages

abbrev pub new_macros : Renaming → List MacroAt → List MacroAt
new_macros ρ ms = map (renamed_macro ρ) ms

module _ (ρ : Renaming) where
  -- the number of a stage that was found, and the sort and the slot of a binding
  number_kept : (o : Option StageItem)
      → option_map (λ (s : StageItem). s.number) (option_map (renamed_stage ρ) o)
      ≡ option_map (λ (s : StageItem). s.number) o
  number_kept None = refl
  number_kept (Some s) = refl

  sort_kept : (o : Option Binding)
      → ◌≡◌ {A = Sort}
      (elim (option_map (renamed_binding ρ) o) [ None ↦ Core | Some b ↦ b.sort ])
      (elim o [ None ↦ Core | Some b ↦ b.sort ])
  sort_kept None = refl
  sort_kept (Some b) = refl

  slot_kept : (o : Option Binding)
      → ◌≡◌ {A = ℕ}
      (elim (option_map (renamed_binding ρ) o) [ None ↦ 0 | Some b ↦ b.slot ])
      (elim o [ None ↦ 0 | Some b ↦ b.slot ])
  slot_kept None = refl
  slot_kept (Some b) = refl

  -- the scope inside a quantifier
  pub quantified_renamed : (scope : Scope) (name : List ℕ) (sort : Sort)
      → quantified_in (new_scope ρ scope) (ρ name) sort ≡ new_scope ρ (quantified_in scope name sort)
  quantified_renamed scope name sort =
      λ i. record { name = ρ name; sort = sort; slot = length-map scope (renamed_binding ρ) i } ∷ new_scope ρ scope

module _ (ρ : Renaming) (apart : KeepsApart ρ) where
  -- the first binding of a name, with its other name
  pub binding_renamed : (scope : Scope) (name : List ℕ)
      → binding_of (new_scope ρ scope) (ρ name) ≡ option_map (renamed_binding ρ) (binding_of scope name)
  binding_renamed [] name = refl
  binding_renamed (b ∷ bs) name =
      ap (λ (t : Bool). cond t (Some (renamed_binding ρ b)) (binding_of (new_scope ρ bs) (ρ name))) (apart b.name name)
      ∙ changed_choice (renamed_binding ρ) (same_name b.name name) b (binding_of bs name)
      (binding_of (new_scope ρ bs) (ρ name)) (binding_renamed bs name)

  -- the slot of a variable
  pub slot_renamed : (scope : Scope) (w : Word) → slot_of (new_scope ρ scope) (renamed_word ρ w) ≡ slot_of scope w
  slot_renamed scope w =
      ap (λ (o : Option Binding). elim o [ None ↦ 0 | Some b ↦ b.slot ]) (binding_renamed scope w.name)
      ∙ slot_kept ρ (binding_of scope w.name)

  -- the sort of an argument
  pub sort_renamed : (scope : Scope) (a : Arg)
      → sort_of_arg (new_scope ρ scope) (renamed_arg ρ a) ≡ sort_of_arg scope a
  sort_renamed scope (word_arg w) =
      ap (λ (o : Option Binding). elim o [ None ↦ Core | Some b ↦ b.sort ]) (binding_renamed scope w.name)
      ∙ sort_kept ρ (binding_of scope w.name)
  sort_renamed scope (number_arg n at) = refl

  -- the bindings of names to arguments
  bindings_renamed : (scope : Scope) (slot : ℕ) (names : List (List ℕ)) (args : List Arg)
      → bindings_from (new_scope ρ scope) slot (map ρ names) (new_args ρ args)
      ≡ new_scope ρ (bindings_from scope slot names args)
  bindings_renamed scope slot [] args = refl
  bindings_renamed scope slot (n ∷ ns) [] = refl
  bindings_renamed scope slot (n ∷ ns) (a ∷ as_) =
      λ i. record { name = ρ n; sort = sort_renamed scope a i; slot = slot }
      ∷ bindings_renamed scope (slot + 1) ns as_ i

  -- the scope inside a binding
  pub bound_renamed : (scope : Scope) (names : List (List ℕ)) (args : List Arg)
      → bound_in (new_scope ρ scope) (map ρ names) (new_args ρ args)
      ≡ new_scope ρ (bound_in scope names args)
  bound_renamed scope names args =
      let inner = new_scope ρ scope in
      ap (λ (k : ℕ). bindings_from inner k (map ρ names) (new_args ρ args) ++ inner)
      (length-map scope (renamed_binding ρ))
      ∙ ap (λ (bs : Scope). bs ++ inner) (bindings_renamed scope (length scope) names args)
      ∙ sym (map-append (renamed_binding ρ) (bindings_from scope (length scope) names args) scope)

  -- the number of a stage
  pub stage_number_renamed : (stages : List StageItem) (name : List ℕ)
      → stage_number_of (new_stages ρ stages) (ρ name) ≡ stage_number_of stages name
  stage_number_renamed stages name =
      ap (option_map (λ (s : StageItem). s.number)) (stage_renamed ρ apart stages name)
      ∙ number_kept ρ (stage_with_name stages name)
