use Rattle.pc_ground.proofs.Cuts.{words_last}
use Rattle.lifted_check.proofs.SpacedWords.{words_cut}
use Rattle.lifted_check.proofs.words.first_word.Goals as goal

pub returns-in-Some-clause-words : goal.returns-in-Some-clause-words
returns-in-Some-clause-words c = words_cut c.args.line.now c.in-Some.word.now c.in-Some.rest.now c.in-Some.ensures.cut

pub returns-in-None-clause-words : goal.returns-in-None-clause-words
returns-in-None-clause-words c = words_last c.args.line.now c.in-None.ensures.cut
