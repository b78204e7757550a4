-- A model with one axiom more: its axioms, its macros, its truth, and its first faults.
use Rattle.std.proofs.{Common.{◌≡◌, ℕ, ◌+◌, Bool, ◌&&◌, List, [], ◌∷◌, ◌++◌, Option, Some, None, reverse, refl, ◌∙◌, ap}, Math.Bool.{and-true}}
use Rattle.std.specs.{List.{flat_map, list_all}, Option.{option_or}}
use Rattle.pc_common.{specs.{Case.{Case}, World.{Node, World}, declared.place.Place.{Place}}, proofs.Bools.{and_assoc}}
use Rattle.pc_syntax.specs.Written.{Written, MacroAt, WrittenItem, axiom_, macro_, WrittenModel}
use Rattle.pc_syntax.specs.{Observable.{axiom_of, macro_of, axioms_of, macros_in_order, macros_of, satisfies, setting}, Truth.{is_true, are_true}}
use Rattle.pc_syntax.specs.{Fault.{Fault, first_fault}, MacroFaults.{body_fault, macro_fault, items_fault, first_macro_fault}}
use Rattle.pc_syntax.specs.Sizes.{expanded_size, expanded_height, depth_fault, total_fault, sizes_fault, first_size_fault}
use Rattle.pc_syntax.{specs.NameFaults.{name_fault, first_name_fault}, proofs.NoFault.{none_first, none_second}}
use Rattle.ask_command.specs.Queries.{first_byte, with_axiom}

or_nothing : {A : Type 0} (a : Option A) → option_or a None ≡ a
or_nothing None = refl
or_nothing (Some x) = refl

-- a part without fault is passed
pass : {A : Type 0} (a b : Option A) → a ≡ None → option_or a b ≡ b
pass None b h = refl
pass (Some x) b h = cc

all_more : {A : Type 0} (p : A → Bool) (xs : List A) (x : A) → list_all p (xs ++ x ∷ []) ≡ (list_all p xs && p x)
all_more p [] x = and-true (p x)
all_more p (y ∷ ys) x = ap (λ b. p y && b) (all_more p ys x) ∙ and_assoc (p y) (list_all p ys) (p x)

module _ (at : Place) (body : Written) where
  items_axioms : (items : List WrittenItem) → flat_map axiom_of (items ++ axiom_ at body ∷ []) ≡ flat_map axiom_of items ++ body ∷ []
  items_axioms [] = refl
  items_axioms (macro_ x ∷ items) = items_axioms items
  items_axioms (axiom_ there other ∷ items) = ap (λ zs. other ∷ zs) (items_axioms items)

  items_macros : (items : List WrittenItem) → flat_map macro_of (items ++ axiom_ at body ∷ []) ≡ flat_map macro_of items
  items_macros [] = refl
  items_macros (macro_ x ∷ items) = ap (λ zs. x ∷ zs) (items_macros items)
  items_macros (axiom_ there other ∷ items) = items_macros items

  -- after items without a macro fault, the first is that of the axiom
  calls_more : (all earlier : List MacroAt) (items : List WrittenItem) → items_fault all earlier items ≡ None
      → items_fault all earlier (items ++ axiom_ at body ∷ []) ≡ body_fault all body
  calls_more all earlier [] none = or_nothing (body_fault all body)
  calls_more all earlier (macro_ x ∷ items) none =
      let rest = items_fault all (x ∷ earlier) items in
      pass (macro_fault earlier x) (items_fault all (x ∷ earlier) (items ++ axiom_ at body ∷ [])) (none_first (macro_fault earlier x) rest none)
      ∙ calls_more all (x ∷ earlier) items (none_second (macro_fault earlier x) rest none)
  calls_more all earlier (axiom_ there other ∷ items) none =
      let rest = items_fault all earlier items in
      pass (body_fault all other) (items_fault all earlier (items ++ axiom_ at body ∷ [])) (none_first (body_fault all other) rest none)
      ∙ calls_more all earlier items (none_second (body_fault all other) rest none)

-- the size of the axioms among the items, after others of this size
pub size_after : List MacroAt → ℕ → List WrittenItem → ℕ
size_after ms total [] = total
size_after ms total (macro_ x ∷ items) = size_after ms total items
size_after ms total (axiom_ at body ∷ items) = size_after ms (total + expanded_size ms body) items

-- the size fault of an axiom after others of this size
abbrev pub size_fault : List MacroAt → ℕ → Place → Written → Option Fault
size_fault ms before at body =
    option_or (depth_fault at (expanded_height ms body)) (total_fault at (before + expanded_size ms body))

sizes_more : (ms : List MacroAt) (total : ℕ) (items : List WrittenItem) (at : Place) (body : Written) → sizes_fault ms total items ≡ None
    → sizes_fault ms total (items ++ axiom_ at body ∷ []) ≡ size_fault ms (size_after ms total items) at body
unfolding size_after
sizes_more ms total [] at body none =
    ap (option_or (depth_fault at (expanded_height ms body))) (or_nothing (total_fault at (total + expanded_size ms body)))
sizes_more ms total (macro_ x ∷ items) at body none = sizes_more ms total items at body none
sizes_more ms total (axiom_ there other ∷ items) at body none =
    let depth = depth_fault there (expanded_height ms other) in
    let now = total + expanded_size ms other in
    let size = total_fault there now in
    let rest = sizes_fault ms now items in
    let later : option_or size rest ≡ None = none_second depth (option_or size rest) none in
    let more = sizes_fault ms now (items ++ axiom_ at body ∷ []) in
    pass depth (option_or size more) (none_first depth (option_or size rest) none)
    ∙ pass size more (none_first size rest later)
    ∙ sizes_more ms now items at body (none_second size rest later)

names_more : {A : Type 0} (fault : A → Option Fault) (xs : List A) (x : A) → first_fault fault xs ≡ None → first_fault fault (xs ++ x ∷ []) ≡ fault x
names_more fault [] x none = or_nothing (fault x)
names_more fault (y ∷ ys) x none =
    pass (fault y) (first_fault fault (ys ++ x ∷ [])) (none_first (fault y) (first_fault fault ys) none)
    ∙ names_more fault ys x (none_second (fault y) (first_fault fault ys) none)

module _ (m : WrittenModel) (f : Written) where
  pub axioms_more : axioms_of (with_axiom m f) ≡ axioms_of m ++ f ∷ []
  axioms_more = items_axioms first_byte f m.items

  pub ordered_macros_same : macros_in_order (with_axiom m f) ≡ macros_in_order m
  ordered_macros_same = items_macros first_byte f m.items

  pub macros_same : macros_of (with_axiom m f) ≡ macros_of m
  macros_same = ap reverse ordered_macros_same

  -- a world satisfies it exactly where it satisfies the model and the axiom is true in it
  pub satisfies_more : (c : Case) (w : World Node)
      → satisfies (with_axiom m f) c w ≡ (satisfies m c w && is_true (setting m c w) (macros_of m) [] f)
  satisfies_more c w =
      ap (λ ms. are_true (setting m c w) ms (axioms_of (with_axiom m f))) macros_same
      ∙ ap (λ axioms. are_true (setting m c w) (macros_of m) axioms) axioms_more
      ∙ all_more (is_true (setting m c w) (macros_of m) []) (axioms_of m) f

  -- its first faults, where the model has none
  pub macro_fault_more : first_macro_fault m ≡ None → first_macro_fault (with_axiom m f) ≡ body_fault (macros_in_order m) f
  macro_fault_more none =
      ap (λ all. items_fault all [] (m.items ++ axiom_ first_byte f ∷ [])) ordered_macros_same
      ∙ calls_more first_byte f (macros_in_order m) [] m.items none

  pub size_fault_more : first_size_fault m ≡ None
      → first_size_fault (with_axiom m f) ≡ size_fault (macros_of m) (size_after (macros_of m) 0 m.items) first_byte f
  size_fault_more none =
      ap (λ ms. sizes_fault ms 0 (m.items ++ axiom_ first_byte f ∷ [])) macros_same
      ∙ sizes_more (macros_of m) 0 m.items first_byte f none

  pub name_fault_more : first_name_fault m ≡ None → first_name_fault (with_axiom m f) ≡ name_fault m.stages (macros_of m) [] f
  name_fault_more none =
      ap (λ ms. first_fault (name_fault m.stages ms []) (axioms_of (with_axiom m f))) macros_same
      ∙ ap (first_fault (name_fault m.stages (macros_of m) [])) axioms_more
      ∙ names_more (name_fault m.stages (macros_of m) []) (axioms_of m) f none
