use Rattle.std.proofs.Common.{arith, sym, ◌∙◌}
use Rattle.pc_ground.proofs.Decimals.{not_digit, too_great}
use Rattle.pc_ground.proofs.decimal.digits_value.Goals as goal

pub returns-then-not-is_ascii_digit : goal.returns-then-not-is_ascii_digit
returns-then-not-is_ascii_digit c =
    not_digit c.args.digits.now c.loop-digit.digit-index c.loop-digit.value c.loop-digit-test.true c.loop-digit.invariant.1
    (sym c.is_ascii_digit.ensures.value ∙ c.if-not-is_ascii_digit.true)

pub returns-in_err-checked_mul : goal.returns-in_err-checked_mul
returns-in_err-checked_mul c =
    rw c.from_residual.ensures
    (too_great c.args.digits.now c.loop-digit.digit-index c.loop-digit.value c.loop-digit-test.true c.loop-digit.invariant.1
    (omega (arith, c.in_err-checked_mul.ensures)))

pub returns-in_err-value : goal.returns-in_err-value
returns-in_err-value c =
    rw c.from_residual-in_err-value.ensures
    (too_great c.args.digits.now c.loop-digit.digit-index c.loop-digit.value c.loop-digit-test.true c.loop-digit.invariant.1
    (omega (arith, c.in_err-value.ensures, c.from.ensures, c.in_ok-checked_mul.ensures.1)))
