use Rattle.std.proofs.{Common.{◌++◌, ◌∷◌, [], map, take, ap, sym, ◌∙◌, option_map}, lemmas.List.{map_more}}
use Rattle.std.proofs.lemmas.Option.{get_or_from_slice_get, slice_get-map, slice_get_within}
use Rattle.pc_syntax.specs.Expansion.{parameter_names}
use Rattle.macro_expand.specs.Tables.{plain_macros, macro_at}
use Rattle.macro_expand.proofs.parameter_names.names_of_macros.Goals as goal

pub loop-number-preserved : goal.loop-number-preserved
loop-number-preserved c =
    let macros = c.args.macros.now in
    let ms = plain_macros macros in
    let k = c.loop-number.number in let m = macro_at c.get.result in
    let here = slice_get-map macro_at macros k ∙ ap (option_map macro_at) c.get.ensures in
    let within = slice_get_within ms k m here in
    c.in_ok-push.ensures.items
    ∙ ap (λ names. names ++ c.in_ok-names_of.field-0 ∷ []) c.loop-number.invariant
    ∙ ap (λ x. map parameter_names (take k ms) ++ x ∷ []) (c.in_ok-names_of.ensures ∙ sym (ap parameter_names (get_or_from_slice_get ms k m m here)))
    ∙ sym (map_more parameter_names ms k m within)
