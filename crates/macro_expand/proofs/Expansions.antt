-- What the expanded axioms of a model are, and that expansion keeps truth.
use Rattle.std.proofs.Common.{◌≡◌, ℕ, ◌<◌, List, [], ◌∷◌, length, map, reverse, get_or, slice_get, option_map, ◌&&◌, Some, None, All, refl, sym, ap, subst, ◌∙◌, arith}
use Rattle.std.proofs.lemmas.List.{take_all, get_or-map, length-map, Elements.{All-nil, All-cons}}
use Rattle.std.proofs.lemmas.Option.{get_or_from_slice_get, slice_get-map, slice_get_within}
use Rattle.std.specs.List.{flat_map}
use Rattle.pc_syntax.specs.declared.{model.{ModelFile.{ModelFile}, Item.{Item}}, expanded.Expanded.{Expanded}}
use Rattle.pc_syntax.specs.Written.{Written, MacroAt, WrittenItem, axiom_, macro_, written_item, WrittenModel, written_model}
use Rattle.pc_syntax.specs.{Observable.{axiom_of, macro_of, macros_in_order, macros_of, axioms_of, setting}, Truth.{Setting, are_true}}
use Rattle.pc_syntax.specs.{Expansion.{expansion_of, parameter_names, IsExpanded}, MacroFaults.{body_fault, macro_fault, items_fault, first_macro_fault}}
use Rattle.pc_syntax.{specs.Sizes.{sizes_fault, first_size_fault}, proofs.{NoFault.{none_first, none_second}, ExpandedLaws.{axioms_expanded}}}
use Rattle.pc_syntax.proofs.ExpansionLaws.{expansion_true}
use Rattle.macro_expand.specs.{declared.macros.Macro.{Macro}, Faults.{AreExpansions}, Laws.{ExpansionKeepsTruth, ExpansionsSatisfy}}
use Rattle.macro_expand.specs.Tables.{before, macro_at, plain_macros, OfAxiom, expansion_by_all, AreAxiomsExpanded}

-- the names of the parameters of the macro at k
pub parameter_names_at : (ms : List MacroAt) (names : List (List (List ℕ))) (k : ℕ) (m : MacroAt) (other : List (List ℕ))
    → names ≡ map parameter_names ms → slice_get ms k ≡ Some m → get_or names k other ≡ parameter_names m
parameter_names_at ms names k m other are here =
    get_or_from_slice_get names k (parameter_names m) other
    (ap (λ xs. slice_get xs k) are ∙ slice_get-map parameter_names ms k ∙ ap (option_map parameter_names) here)

-- each macro's names are there
pub names_within : (ms : List MacroAt) (names : List (List (List ℕ))) (k : ℕ) (m : MacroAt) → names ≡ map parameter_names ms → slice_get ms k ≡ Some m
    → k < length names
names_within ms names k m are here =
    let long : length names ≡ length ms = ap length are ∙ length-map ms parameter_names in
    omega (arith, long, slice_get_within ms k m here)

pub latest_first : (ms : List Macro) → before (plain_macros ms) (length ms) ≡ reverse (plain_macros ms)
latest_first ms = ap reverse (take_all (length ms) (plain_macros ms) (omega (arith, length-map ms macro_at)))

-- where items have no macro fault, each axiom's body is as bodies with no fault are
of_axioms : (P : Written → Type 0) (all earlier : List MacroAt) (items : List WrittenItem) → ((w : Written) → body_fault all w ≡ None → P w)
    → items_fault all earlier items ≡ None → All (OfAxiom P) items
of_axioms P all earlier [] each fine = All-nil (OfAxiom P)
of_axioms P all earlier (axiom_ at body ∷ items) each fine =
    All-cons (OfAxiom P) (axiom_ at body) items (each body (none_first (body_fault all body) (items_fault all earlier items) fine))
    (of_axioms P all earlier items each (none_second (body_fault all body) (items_fault all earlier items) fine))
of_axioms P all earlier (macro_ m ∷ items) each fine =
    All-cons (OfAxiom P) (macro_ m) items tt
    (of_axioms P all (m ∷ earlier) items each (none_second (macro_fault earlier m) (items_fault all (m ∷ earlier) items) fine))

-- the axioms of a model without macro faults are expanded by all its macros
pub axioms_are_expanded : (m : WrittenModel) → first_macro_fault m ≡ None
    → All (OfAxiom (λ w. IsExpanded (expansion_of (macros_of m) w))) m.items
axioms_are_expanded m fine =
    of_axioms (λ w. IsExpanded (expansion_of (macros_of m) w)) (macros_in_order m) [] m.items (axioms_expanded m fine).1 fine

pub item_of_axiom : (P : Written → Type 0) (items : List Item) (i : ℕ) (x : Item) → i < length items → x ≡ get_or items i x
    → All (OfAxiom P) (map written_item items) → OfAxiom P (written_item x)
item_of_axiom P items i x within here all =
    let long : i < length (map written_item items) = omega (arith, length-map items written_item) in
    subst (λ y. OfAxiom P (written_item y)) (sym here)
    (subst (OfAxiom P) (get_or-map written_item items i x (written_item x) within) (all i (written_item x) long))

-- what the checks of a model found, and its table of macros
module _ (model : ModelFile) (items : List Item) (value : items ≡ model.items) (table : List Macro)
    (all : plain_macros table ≡ flat_map macro_of (map written_item items))
    (judged : items_fault (flat_map macro_of (map written_item items)) [] (map written_item items) ≡ None) where
  pub no_macro_fault : first_macro_fault (written_model model) ≡ None
  no_macro_fault = subst (λ xs. items_fault (flat_map macro_of (map written_item xs)) [] (map written_item xs) ≡ None) value judged

  sees_all : before (plain_macros table) (length table) ≡ macros_of (written_model model)
  sees_all = latest_first table ∙ ap reverse (all ∙ ap (λ xs. flat_map macro_of (map written_item xs)) value)

  pub ready : All (OfAxiom (λ w. IsExpanded (expansion_by_all table w))) (map written_item items)
  ready =
      subst (λ ms. All (OfAxiom (λ w. IsExpanded (expansion_of ms w))) (map written_item items)) (sym sees_all)
      (subst (λ xs. All (OfAxiom (λ w. IsExpanded (expansion_of (macros_of (written_model model)) w))) (map written_item xs)) (sym value)
      (axioms_are_expanded (written_model model) no_macro_fault))

  pub same_size_fault : sizes_fault (before (plain_macros table) (length table)) 0 (map written_item items) ≡ first_size_fault (written_model model)
  same_size_fault =
      ap (λ ms. sizes_fault ms 0 (map written_item items)) sees_all
      ∙ ap (λ xs. sizes_fault (macros_of (written_model model)) 0 (map written_item xs)) value

  pub all_expansions : (es : List Expanded) → AreAxiomsExpanded table items es → AreExpansions (written_model model) es
  all_expansions es are =
      are
      ∙ ap (λ ms. map (expansion_of ms) (flat_map axiom_of (map written_item items))) sees_all
      ∙ ap (λ xs. map (expansion_of (macros_of (written_model model))) (flat_map axiom_of (map written_item xs))) value

pub expansion_keeps : ExpansionKeepsTruth
expansion_keeps s ms env w = expansion_true s ms env w

all_expanded : (s : Setting) (ms : List MacroAt) (ws : List Written)
    → are_true s ms ws ≡ are_true s [] (map (expansion_of ms) ws)
all_expanded s ms [] = refl
all_expanded s ms (w ∷ ws) = λ i. expansion_true s ms [] w i && all_expanded s ms ws i

pub expansions_satisfy : ExpansionsSatisfy
expansions_satisfy m es are c w =
    all_expanded (setting m c w) (macros_of m) (axioms_of m) ∙ ap (are_true (setting m c w) []) (sym are)
