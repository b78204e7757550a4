use Rattle.std.proofs.{Common.{refl, length}, lemmas.Option.{slice_get_read}}
use Rattle.pattern_reader.proofs.{Digits.{value_among}, RowCases.{rows_more}}
use Rattle.pattern_reader.proofs.rows.row_ops.Goals as goal

pub loop-place-preserved : goal.loop-place-preserved
loop-place-preserved c =
    let ops = c.args.ops.now in
    let own = slice_get_read ops (length ops) c.loop-place.place c.index-ops-place.result refl c.loop-place-test.true c.index-ops-place.is in
    rows_more (value_among c.args.reads.now c.args.row) ops c.loop-place.place c.index-ops-place.result c.in_ok-op_reading.field-0 c.value_for.result
    c.loop-place.copies c.push.new.self own c.in_ok-push.ensures c.in_ok-op_reading.ensures c.value_for.ensures c.loop-place.invariant
