-- A model without faults has none with some of its axioms.
use Rattle.std.proofs.Common.{◌≡◌, ℕ, zero, ◌+◌, ◌≤◌, Bool, true, false, List, [], ◌∷◌, Option, Some, None, refl, ◌∙◌, ap, nat_lt, ltb-false, arith}
use Rattle.std.{proofs.lemmas.Bool.{le-ltb}, specs.{Prelude.{if◌then◌else◌}, Option.{option_or}}}
use Rattle.pc_common.specs.declared.place.Place.{Place}
use Rattle.pc_syntax.specs.{declared.limits.TheConstants.{MAX_SIZE}, Written.{Written, MacroAt, WrittenItem, axiom_, macro_, WrittenModel}}
use Rattle.pc_syntax.specs.{Observable.{axioms_of, macros_in_order, macros_of}, Fault.{Fault, first_fault}, StageFaults.{first_stage_fault}}
use Rattle.pc_syntax.specs.MacroFaults.{body_fault, macro_fault, items_fault, first_macro_fault}
use Rattle.pc_syntax.specs.Sizes.{expanded_size, expanded_height, depth_fault, total_fault, sizes_fault, first_size_fault}
use Rattle.pc_syntax.{specs.{NameFaults.{name_fault, first_name_fault}, ModelFault.{first_model_fault}}, proofs.NoFault.{none_first, none_second, none_where}}
use Rattle.axiom_core.specs.{Chosen.{Choice, after_first, taken}, ModelWith.{items_with, model_with}}
use Rattle.axiom_core.proofs.AxiomsWith.{axioms_with, ordered_macros_with, macros_with}

none_both : {A : Type 0} (a b : Option A) → a ≡ None → b ≡ None → option_or a b ≡ None
none_both None b e f = f
none_both (Some x) b e f = cc

none_there : {A : Type 0} (b : Bool) (x : A) → b ≡ false → (if b then Some x else None) ≡ None
none_there true x e = cc
none_there false x e = refl

call_front : (all earlier : List MacroAt) (b : Bool) (at : Place) (body : Written) (items : List WrittenItem)
    → body_fault all body ≡ None → items_fault all earlier items ≡ None
    → items_fault all earlier (if b then axiom_ at body ∷ items else items) ≡ None
call_front all earlier true at body items first rest = none_both (body_fault all body) (items_fault all earlier items) first rest
call_front all earlier false at body items first rest = rest

calls_with : (keep : Choice) (all earlier : List MacroAt) (items : List WrittenItem)
    → items_fault all earlier items ≡ None → items_fault all earlier (items_with keep items) ≡ None
calls_with keep all earlier [] h = refl
calls_with keep all earlier (macro_ m ∷ items) h =
    none_both (macro_fault earlier m) (items_fault all (m ∷ earlier) (items_with keep items)) (none_first (macro_fault earlier m) _ h)
    (calls_with keep all (m ∷ earlier) items (none_second (macro_fault earlier m) _ h))
calls_with keep all earlier (axiom_ at body ∷ items) h =
    call_front all earlier (keep zero) at body (items_with (after_first keep) items) (none_first (body_fault all body) _ h)
    (calls_with (after_first keep) all earlier items (none_second (body_fault all body) _ h))

total_less : (at : Place) (total other : ℕ) → other ≤ total → total_fault at total ≡ None → total_fault at other ≡ None
total_less at total other less h =
    let most : total ≤ MAX_SIZE = ltb-false MAX_SIZE total (none_where (nat_lt MAX_SIZE total) _ h) in
    none_there (nat_lt MAX_SIZE other) _ (le-ltb MAX_SIZE other (omega (arith, most, less)))

size_front : (ms : List MacroAt) (b : Bool) (at : Place) (body : Written) (total other : ℕ) (items : List WrittenItem) → other ≤ total
    → depth_fault at (expanded_height ms body) ≡ None → total_fault at (total + expanded_size ms body) ≡ None
    → ((less : ℕ) → less ≤ total + expanded_size ms body → sizes_fault ms less items ≡ None)
    → sizes_fault ms other (if b then axiom_ at body ∷ items else items) ≡ None
size_front ms true at body total other items less depth size rest =
    let now = other + expanded_size ms body in
    none_both (depth_fault at (expanded_height ms body)) (option_or (total_fault at now) (sizes_fault ms now items)) depth
    (none_both (total_fault at now) (sizes_fault ms now items)
    (total_less at (total + expanded_size ms body) now (omega (arith, less)) size) (rest now (omega (arith, less))))
size_front ms false at body total other items less depth size rest = rest other (omega (arith, less))

sizes_with : (keep : Choice) (ms : List MacroAt) (total other : ℕ) (items : List WrittenItem) → other ≤ total
    → sizes_fault ms total items ≡ None → sizes_fault ms other (items_with keep items) ≡ None
sizes_with keep ms total other [] less h = refl
sizes_with keep ms total other (macro_ m ∷ items) less h = sizes_with keep ms total other items less h
sizes_with keep ms total other (axiom_ at body ∷ items) less h =
    let depth = depth_fault at (expanded_height ms body) in
    let now = total + expanded_size ms body in
    let rest : option_or (total_fault at now) (sizes_fault ms now items) ≡ None = none_second depth _ h in
    size_front ms (keep zero) at body total other (items_with (after_first keep) items) less (none_first depth _ h) (none_first (total_fault at now) _ rest)
    (λ k within. sizes_with (after_first keep) ms now k items within (none_second (total_fault at now) _ rest))

name_front : {A : Type 0} (fault : A → Option Fault) (b : Bool) (x : A) (xs : List A)
    → fault x ≡ None → first_fault fault xs ≡ None → first_fault fault (if b then x ∷ xs else xs) ≡ None
name_front fault true x xs first rest = none_both (fault x) (first_fault fault xs) first rest
name_front fault false x xs first rest = rest

names_with : {A : Type 0} (fault : A → Option Fault) (keep : Choice) (xs : List A)
    → first_fault fault xs ≡ None → first_fault fault (taken keep xs) ≡ None
names_with fault keep [] h = refl
names_with fault keep (x ∷ xs) h =
    name_front fault (keep zero) x (taken (after_first keep) xs) (none_first (fault x) _ h) (names_with fault (after_first keep) xs (none_second (fault x) _ h))

module _ (keep : Choice) (m : WrittenModel) where
  macro_faultless : first_macro_fault m ≡ None → first_macro_fault (model_with keep m) ≡ None
  macro_faultless h =
      ap (λ all. items_fault all [] (items_with keep m.items)) (ordered_macros_with keep m) ∙ calls_with keep (macros_in_order m) [] m.items h

  size_faultless : first_size_fault m ≡ None → first_size_fault (model_with keep m) ≡ None
  size_faultless h =
      ap (λ ms. sizes_fault ms 0 (items_with keep m.items)) (macros_with keep m) ∙ sizes_with keep (macros_of m) 0 0 m.items (omega arith) h

  name_faultless : first_name_fault m ≡ None → first_name_fault (model_with keep m) ≡ None
  name_faultless h =
      ap (λ ms. first_fault (name_fault m.stages ms []) (axioms_of (model_with keep m))) (macros_with keep m)
      ∙ ap (first_fault (name_fault m.stages (macros_of m) [])) (axioms_with keep m)
      ∙ names_with (name_fault m.stages (macros_of m) []) keep (axioms_of m) h

  pub faultless_with : first_model_fault m ≡ None → first_model_fault (model_with keep m) ≡ None
  faultless_with h =
      let stage : first_stage_fault m ≡ None = none_first (first_stage_fault m) _ h in
      let behind_stages = none_second (first_stage_fault m) (option_or (first_macro_fault m) (option_or (first_size_fault m) (first_name_fault m))) h in
      let behind_macros = none_second (first_macro_fault m) (option_or (first_size_fault m) (first_name_fault m)) behind_stages in
      none_both (first_stage_fault m)
      (option_or (first_macro_fault (model_with keep m)) (option_or (first_size_fault (model_with keep m)) (first_name_fault (model_with keep m)))) stage
      (none_both (first_macro_fault (model_with keep m)) (option_or (first_size_fault (model_with keep m)) (first_name_fault (model_with keep m)))
      (macro_faultless (none_first (first_macro_fault m) _ behind_stages))
      (none_both (first_size_fault (model_with keep m)) (first_name_fault (model_with keep m))
      (size_faultless (none_first (first_size_fault m) _ behind_macros)) (name_faultless (none_second (first_size_fault m) _ behind_macros))))
