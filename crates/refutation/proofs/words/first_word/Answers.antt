use Rattle.refutation.proofs.LineWords.{words_cut, words_uncut}
use Rattle.refutation.proofs.words.first_word.Goals as goal

pub returns-then-byte-eq32-clause-words : goal.returns-then-byte-eq32-clause-words
returns-then-byte-eq32-clause-words c = words_cut c.args.line.now c.loop-at.at c.loop-at-test.true c.if-byte-eq32.true c.loop-at.invariant

pub returns-clause-words : goal.returns-clause-words
returns-clause-words c = words_uncut c.args.line.now c.loop-at.at c.loop-at-test.false c.loop-at.invariant
