use Rattle.std.{proofs.Common.{◌∙◌, sym, ap, ◌∷◌, []}, specs.String.{string_bytes}}
use Rattle.command_base.proofs.ThreeWords.{three, same_if_not_other, other_text, first_word}
use Rattle.command_base.proofs.command.take_inputs.Goals as goal

pub returns-then-ne : goal.returns-then-ne
returns-then-ne c = λ i e.
    let words = three string_bytes c.args.words.now c.first-item.result c.model-item.result c.test-item.result
    c.in-len3.len_at_least c.in-len3.len_below c.first-item.is c.model-item.is c.test-item.is in
    other_text c.as_str.result.now c.args.word.now c.if-ne.ensures (c.as_str.ensures.value ∙ first_word (sym words ∙ e))

pub returns : goal.returns
returns c =
    let words = three string_bytes c.args.words.now c.first-item.result c.model-item.result c.test-item.result
    c.in-len3.len_at_least c.in-len3.len_below c.first-item.is c.model-item.is c.test-item.is in
    let first = sym c.as_str.ensures.value ∙ same_if_not_other c.as_str.result.now c.args.word.now c.if-ne.ensures in
    words ∙ ap (λ x. x ∷ string_bytes c.model-item.result ∷ string_bytes c.test-item.result ∷ []) first ∙
    ap (λ x. c.args.word.now ∷ x ∷ string_bytes c.test-item.result ∷ []) (sym c.as_str-2.ensures.value) ∙
    ap (λ x. c.args.word.now ∷ c.as_str-2.result.now ∷ x ∷ []) (sym c.as_str-3.ensures.value)
