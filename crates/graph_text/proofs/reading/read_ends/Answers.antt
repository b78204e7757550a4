use Rattle.graph_text.proofs.GraphTexts.{ends_again, ends_read}
use Rattle.graph_text.proofs.reading.read_ends.Goals as goal

pub returns-clause-read : goal.returns-clause-read
returns-clause-read c =
    rw c.join_ends.ensures (ends_read c.args.names.now c.args.words.now c.in-Some.from.now c.in-Some.to.now c.in-Some.ensures c.read.ensures.readable
    c.read.result c.read-2.result c.read.ensures.read c.read-2.ensures.read)

pub returns-clause-again : goal.returns-clause-again
returns-clause-again c =
    rw c.join_ends.ensures (ends_again c.args.names.now c.args.words.now c.in-Some.from.now c.in-Some.to.now c.in-Some.ensures c.read.ensures.readable
    c.read.result c.read-2.result c.read.ensures.again c.read-2.ensures.again)
