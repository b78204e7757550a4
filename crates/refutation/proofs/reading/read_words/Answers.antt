use Rattle.std.{proofs.Common.{[], ◌∷◌, sym, ◌∙◌, ap, List, ℕ, subst}, specs.Option.{option_map_or}}
use Rattle.pc_ground.specs.Words.{words}
use Rattle.refutation.{specs.StepWords.{ReadsWords}, proofs.StepWalk.{room_behind}}
use Rattle.refutation.proofs.reading.read_words.Goals as goal

pub read_rest-requires-clause-room : goal.read_rest-requires-clause-room
read_rest-requires-clause-room c =
    room_behind c.args.line.now c.first_word.result.0.now c.in-Some.rest.now c.args.row.now.spare
    (c.first_word.ensures.words ∙ ap (λ o. c.first_word.result.0.now ∷ option_map_or (λ r. words r.now) o []) c.in-Some.is) c.requires.room

pub returns-in-None-clause-read : goal.returns-in-None-clause-read
returns-in-None-clause-read c =
    let P : List (List ℕ) → Type 0 = λ ws. ReadsWords c.args.names.now ws [] c.read_alone.result in
    rw c.requires.empty
    (subst P (sym (c.first_word.ensures.words ∙ ap (λ o. c.first_word.result.0.now ∷ option_map_or (λ r. words r.now) o []) c.in-None.is))
    (c.read_alone.ensures c.args.names.now))
