use Rattle.std.proofs.Common.{sym, eqb-true, length}
use Rattle.pc_ground.proofs.Decimals.{decimal_empty, decimal_zero, leading_zero, decimal_found}
use Rattle.pc_ground.proofs.decimal.decimal_value.Goals as goal

pub returns-then-is_empty : goal.returns-then-is_empty
returns-then-is_empty c = decimal_empty c.args.bytes.now (eqb-true (length c.args.bytes.now) 0 (sym c.if-is_empty.ensures))

pub returns-then-bytes-eq1 : goal.returns-then-bytes-eq1
returns-then-bytes-eq1 c = decimal_zero c.args.bytes.now c.if-bytes-eq48.true c.if-bytes-eq1.true

pub returns-else-bytes-eq1 : goal.returns-else-bytes-eq1
returns-else-bytes-eq1 c = leading_zero c.args.bytes.now c.if-bytes-eq48.true c.if-bytes-eq1.false

pub returns : goal.returns
returns c = decimal_found c.args.bytes.now c.digits_value.result c.if-is_empty.ensures c.if-bytes-eq48.false c.digits_value.ensures
