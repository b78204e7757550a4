-- The axioms and the macros of a model with some of its axioms.
use Rattle.std.{proofs.Common.{◌≡◌, zero, Bool, true, false, List, [], ◌∷◌, reverse, refl, ◌∙◌, ap}, specs.{Prelude.{if◌then◌else◌}, List.{flat_map}}}
use Rattle.pc_common.specs.{Case.{Case}, World.{Node, World}, declared.place.Place.{Place}}
use Rattle.pc_syntax.specs.Written.{Written, WrittenItem, axiom_, macro_, WrittenModel}
use Rattle.pc_syntax.specs.{Observable.{axiom_of, macro_of, axioms_of, macros_in_order, macros_of, satisfies, setting}, Truth.{are_true}}
use Rattle.axiom_core.specs.{Chosen.{Choice, after_first, taken}, ModelWith.{items_with, model_with}}

axiom_front : (b : Bool) (at : Place) (body : Written) (items : List WrittenItem) (bodies : List Written) → flat_map axiom_of items ≡ bodies
    → flat_map axiom_of (if b then axiom_ at body ∷ items else items) ≡ (if b then body ∷ bodies else bodies)
axiom_front true at body items bodies e = ap (λ zs. body ∷ zs) e
axiom_front false at body items bodies e = e

items_axioms : (keep : Choice) (items : List WrittenItem) → flat_map axiom_of (items_with keep items) ≡ taken keep (flat_map axiom_of items)
items_axioms keep [] = refl
items_axioms keep (macro_ m ∷ items) = items_axioms keep items
items_axioms keep (axiom_ at body ∷ items) =
    axiom_front (keep zero) at body (items_with (after_first keep) items) (taken (after_first keep) (flat_map axiom_of items))
    (items_axioms (after_first keep) items)

macro_front : (b : Bool) (at : Place) (body : Written) (items : List WrittenItem)
    → flat_map macro_of (if b then axiom_ at body ∷ items else items) ≡ flat_map macro_of items
macro_front true at body items = refl
macro_front false at body items = refl

items_macros : (keep : Choice) (items : List WrittenItem) → flat_map macro_of (items_with keep items) ≡ flat_map macro_of items
items_macros keep [] = refl
items_macros keep (macro_ m ∷ items) = ap (λ zs. m ∷ zs) (items_macros keep items)
items_macros keep (axiom_ at body ∷ items) = macro_front (keep zero) at body (items_with (after_first keep) items) ∙ items_macros (after_first keep) items

-- the axioms are those that are chosen
pub axioms_with : (keep : Choice) (m : WrittenModel) → axioms_of (model_with keep m) ≡ taken keep (axioms_of m)
axioms_with keep m = items_axioms keep m.items

-- the macros stay
pub ordered_macros_with : (keep : Choice) (m : WrittenModel) → macros_in_order (model_with keep m) ≡ macros_in_order m
ordered_macros_with keep m = items_macros keep m.items

pub macros_with : (keep : Choice) (m : WrittenModel) → macros_of (model_with keep m) ≡ macros_of m
macros_with keep m = ap reverse (ordered_macros_with keep m)

pub satisfies_with : (keep : Choice) (m : WrittenModel) (c : Case) (w : World Node)
    → satisfies (model_with keep m) c w ≡ are_true (setting m c w) (macros_of m) (taken keep (axioms_of m))
satisfies_with keep m c w =
    ap (λ ms. are_true (setting m c w) ms (axioms_of (model_with keep m))) (macros_with keep m)
    ∙ ap (λ axioms. are_true (setting m c w) (macros_of m) axioms) (axioms_with keep m)
