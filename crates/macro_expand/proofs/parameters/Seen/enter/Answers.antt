use Rattle.std.proofs.Common.{List, [], ◌∷◌, ◌++◌, map, option_map, sym, ap, ◌∙◌}
use Rattle.pc_syntax.specs.{declared.term.Word.{Word}, MacroFaults.{word_with_name}}
use Rattle.macro_expand.{specs.Tables.{word_at}, proofs.SeenNames.{place_of, no_place, word_more}}
use Rattle.macro_expand.proofs.parameters.Seen.enter.Goals as goal

pub returns-in-Some : goal.returns-in-Some
returns-in-Some c =
    let es = c.self.inside.places.entries in
    ap (λ (ws : List Word). option_map (λ w. w.at) (word_with_name ws c.args.word.now.name)) (sym c.self.view_is)
    ∙ ap (λ name. option_map (λ w. w.at) (word_with_name (map word_at es) name)) (sym c.as_slice-name.ensures.value)
    ∙ sym (place_of es c.as_slice-name.result.now)
    ∙ sym c.in-Some.ensures.value

pub returns : goal.returns
returns c =
    let es = c.self.inside.places.entries in
    let none = sym c.in_default.ensures.value in (
      ap (λ (ws : List Word). word_with_name ws c.args.word.now.name) (sym c.self.view_is)
          ∙ ap (λ name. word_with_name (map word_at es) name) (sym c.as_slice-name.ensures.value)
          ∙ no_place es c.as_slice-name.result.now none,
      word_more c.self.inside.places c.insert.new.self.entries c.as_slice-name.result c.args.word.now.at none c.in_ok-insert.ensures.entries
          ∙ (λ i. c.self.view_is i ++ record { name = c.as_slice-name.ensures.value i; at = c.args.word.now.at } ∷ []),
    )
