use Rattle.std.{proofs.Common.{◌∙◌, sym, ap, ◌∷◌, []}, specs.{Prelude.{codes}, String.{string_bytes}}}
use Rattle.command_base.proofs.{ThreeWords.{two, same_if_not_other}, GenWords.{gen_words}}
use Rattle.command_base.proofs.cores.take_cores.Goals as goal

pub returns : goal.returns
returns c =
    let words = two string_bytes c.args.words.now c.first-item.result c.number-item.result
    c.in-len2.len_at_least c.in-len2.len_below c.first-item.is c.number-item.is in
    let first = sym c.as_str.ensures.value ∙ same_if_not_other c.as_str.result.now (codes "gen") c.if-ne.ensures in
    gen_words _ c.as_str-2.result.now c.cores.result
    (words ∙ ap (λ x. x ∷ string_bytes c.number-item.result ∷ []) first ∙ ap (λ x. codes "gen" ∷ x ∷ []) (sym c.as_str-2.ensures.value))
    c.cores.ensures
