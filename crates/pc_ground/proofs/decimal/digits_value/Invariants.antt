use Rattle.std.proofs.Common.{◌≤◌}
use Rattle.pc_ground.proofs.Decimals.{ReadUpTo}
use Rattle.pc_ground.proofs.decimal.digits_value.Given as goal

abbrev pub invariant-loop-digit : goal.invariant-loop-digit
invariant-loop-digit l = (l.value ≤ 18446744073709551615) × ReadUpTo l.digits l.digit-index l.value
