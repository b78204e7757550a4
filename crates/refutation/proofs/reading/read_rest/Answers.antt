use Rattle.std.{proofs.Common.{sym, ◌∙◌, List, ℕ, ◌∷◌, [], subst}, specs.Cmp.Lexicographic.{same_text, other_text}}
use Rattle.pc_ground.specs.Words.{words}
use Rattle.refutation.{specs.StepWords.{ReadsWords}, proofs.StepWalk.{some_words, no_word}}
use Rattle.refutation.proofs.reading.read_rest.Goals as goal

pub returns-then-eq-clause-read : goal.returns-then-eq-clause-read
returns-then-eq-clause-read c =
    let P : List ℕ → Type 0 = λ w. ReadsWords c.args.names.now (w ∷ words c.args.rest.now) [] c.read_split.result in
    rw c.requires.empty
    (subst P (sym (same_text c.args.word.now c.as_slice.result.now c.if-eq.ensures ∙ c.as_slice.ensures)) (c.read_split.ensures c.args.names.now))

pub returns-else-eq-4-clause-read : goal.returns-else-eq-4-clause-read
returns-else-eq-4-clause-read c =
    no_word c.args.word.now (words c.args.rest.now) (some_words c.args.rest.now)
    (λ is. other_text c.args.word.now c.as_slice.result.now c.if-eq.ensures (is ∙ sym c.as_slice.ensures))
    (λ is. other_text c.args.word.now c.as_slice-else-eq.result.now c.if-eq-2.ensures (is ∙ sym c.as_slice-else-eq.ensures))
    (λ is. other_text c.args.word.now c.as_slice-else-eq-2.result.now c.if-eq-3.ensures (is ∙ sym c.as_slice-else-eq-2.ensures))
    (λ is. other_text c.args.word.now c.as_slice-else-eq-3.result.now c.if-eq-4.ensures (is ∙ sym c.as_slice-else-eq-3.ensures))
