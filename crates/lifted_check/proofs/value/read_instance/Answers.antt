use Rattle.lifted_check.proofs.ValueWords.{no_space, no_first_number, no_second_value, an_instance}
use Rattle.lifted_check.proofs.value.read_instance.Goals as goal

pub returns-in_err-number : goal.returns-in_err-number
returns-in_err-number c =
    rw c.from_residual.ensures (no_space c.args.case.now.ops c.args.text.now c.in_err-number.ensures.cut)

pub returns-in_err-decimal_value : goal.returns-in_err-decimal_value
returns-in_err-decimal_value c =
    let cut = c.in_ok-number in
    rw c.from_residual-in_err-decimal_value.ensures
    (no_first_number c.args.case.now.ops c.args.text.now cut.number.now cut.rest.now cut.ensures.cut c.in_err-decimal_value.ensures)

pub returns-in_err-value_of : goal.returns-in_err-value_of
returns-in_err-value_of c =
    let cut = c.in_ok-number in
    rw c.from_residual-in_err-value_of.ensures
    (no_second_value c.args.case.now.ops c.args.text.now cut.number.now cut.rest.now cut.ensures.cut c.in_err-value_of.ensures)

pub returns : goal.returns
returns c =
    let cut = c.in_ok-number in let is = c.in_ok-value_of.ensures in
    an_instance c.args.case.now.ops c.args.text.now cut.number.now cut.rest.now cut.ensures.cut
    c.in_ok-decimal_value.field-0 c.in_ok-value_of.field-0 c.in_ok-decimal_value.ensures is.0 is.1
