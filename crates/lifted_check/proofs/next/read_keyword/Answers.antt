use Rattle.lifted_check.proofs.OneStep.{no_word_alone, no_other_word}
use Rattle.lifted_check.proofs.next.read_keyword.Goals as goal

pub returns-in_err-keyword_named : goal.returns-in_err-keyword_named
returns-in_err-keyword_named c =
    rw c.from_residual.ensures
    (λ ops s. no_other_word ops c.args.line.now c.first_word.result.0.now _ s c.first_word.ensures.words c.in_err-keyword_named.ensures)

pub returns-in_err-rest : goal.returns-in_err-rest
returns-in_err-rest c =
    let alone = rw c.in_err-rest.was at c.first_word.ensures.words in
    rw c.from_residual-in_err-rest.ensures (λ ops s. no_word_alone ops c.args.line.now c.first_word.result.0.now s alone)
