use Rattle.lifted_check.proofs.ValueWords.{no_g, no_n}
use Rattle.lifted_check.proofs.value.name_of.Goals as goal

pub returns-in_err-decimal_value : goal.returns-in_err-decimal_value
returns-in_err-decimal_value c =
    rw c.from_residual-in_err-decimal_value.ensures
    (no_g c.args.word.now c.in_ok-g.g.now c.in_ok-g.n.now c.in_ok-g.ensures.cut c.in_err-decimal_value.ensures)

pub returns-in_err-decimal_value-2 : goal.returns-in_err-decimal_value-2
returns-in_err-decimal_value-2 c =
    rw c.from_residual-in_err-decimal_value-2.ensures
    (no_n c.args.word.now c.in_ok-g.g.now c.in_ok-g.n.now c.in_ok-g.ensures.cut c.in_err-decimal_value-2.ensures)
