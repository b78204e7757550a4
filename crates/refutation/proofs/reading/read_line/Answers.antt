use Rattle.std.proofs.Common.{sym}
use Rattle.refutation.proofs.StepWalk.{line_read, line_fault, line_none, line_again, on_err}
use Rattle.refutation.proofs.reading.read_line.Goals as goal

pub returns-then-is_err-clause-read : goal.returns-then-is_err-clause-read
returns-then-is_err-clause-read c =
    rw c.clear-then-is_err.ensures
    (line_fault c.args.names.now c.show_readable.ensures c.args.line.now c.read_words-read.new.row.nodes c.read_words-read.result c.read_words-read.ensures.read
    (sym c.if-is_err.ensures.value))

pub returns-then-is_err-clause-again : goal.returns-then-is_err-clause-again
returns-then-is_err-clause-again c = λ s of. absurd
    (line_none c.args.names.now c.show_readable.ensures c.args.line.now c.read_words-read.new.row.nodes c.read_words-read.result c.read_words-read.ensures.read
    (sym c.if-is_err.ensures.value) s of)

pub returns-then-is_err-clause-none : goal.returns-then-is_err-clause-none
returns-then-is_err-clause-none c =
    on_err c.read_words-read.result
    (line_none c.args.names.now c.show_readable.ensures c.args.line.now c.read_words-read.new.row.nodes c.read_words-read.result c.read_words-read.ensures.read
    (sym c.if-is_err.ensures.value))

pub returns-else-is_err-clause-read : goal.returns-else-is_err-clause-read
returns-else-is_err-clause-read c =
    line_read c.args.names.now c.args.line.now c.read_words-read.new.row.nodes c.read_words-read.result c.read_words-read.ensures.read
    (sym c.if-is_err.ensures.value)

pub returns-else-is_err-clause-again : goal.returns-else-is_err-clause-again
returns-else-is_err-clause-again c =
    line_again c.args.names.now c.show_readable.ensures c.args.line.now c.read_words-read.new.row.nodes c.read_words-read.result c.read_words-read.ensures.read
    (sym c.if-is_err.ensures.value)
