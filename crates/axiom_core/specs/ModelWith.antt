-- The model with some of its axioms: the others are taken out, stages and macros stay.
use Rattle.std.specs.Prelude.{zero, List, [], ◌∷◌, if◌then◌else◌}
use Rattle.pc_syntax.specs.Written.{WrittenItem, axiom_, macro_, WrittenModel}
use Rattle.axiom_core.specs.Chosen.{Choice, after_first}

-- the axioms are numbered from 0 in the text's order; macros have no number
abbrev pub items_with : Choice → List WrittenItem → List WrittenItem
items_with keep [] = []
items_with keep (macro_ m ∷ items) = macro_ m ∷ items_with keep items
items_with keep (axiom_ at body ∷ items) =
    if keep zero then axiom_ at body ∷ items_with (after_first keep) items else items_with (after_first keep) items

abbrev pub model_with : Choice → WrittenModel → WrittenModel
model_with keep m = record { stages = m.stages; items = items_with keep m.items }
