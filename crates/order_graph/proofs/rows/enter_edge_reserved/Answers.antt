use Rattle.std.proofs.Common.{◌+◌, ◌*◌, arith}
use Rattle.undo_trail.proofs.ExtendsLaws.{extends_then}
use Rattle.order_graph.proofs.EntersBits.{entered_edge}
use Rattle.order_graph.proofs.rows.enter_edge_reserved.Goals as goal

pub close_over-requires-clause-sized : goal.close_over-requires-clause-sized
close_over-requires-clause-sized g c = c.requires.sized

pub close_over-requires-clause-takes : goal.close_over-requires-clause-takes
close_over-requires-clause-takes g c = c.requires.takes

pub close_over-requires-clause-sink : goal.close_over-requires-clause-sink
close_over-requires-clause-sink g c = c.requires.sink

pub close_over-requires-clause-room : goal.close_over-requires-clause-room
close_over-requires-clause-room g c = let room = c.requires.room in omega arith

pub set_bit_reserved-requires-clause-row_in : goal.set_bit_reserved-requires-clause-row_in
set_bit_reserved-requires-clause-row_in g c =
    let rows = c.close_over.ensures.trail.same_rows in let sized = c.requires.sized.0 in omega arith

pub set_bit_reserved-requires-clause-column_in : goal.set_bit_reserved-requires-clause-column_in
set_bit_reserved-requires-clause-column_in g c =
    let words = c.close_over.ensures.trail.same_words in let wide = c.requires.sized.1 in let inside = c.requires.a_in in omega arith

pub set_bit_reserved-requires-clause-room : goal.set_bit_reserved-requires-clause-room
set_bit_reserved-requires-clause-room g c = let room = c.requires.room in let left = c.close_over.ensures.room in omega arith

pub set_bit_reserved-requires-2-clause-row_in : goal.set_bit_reserved-requires-2-clause-row_in
set_bit_reserved-requires-2-clause-row_in g c =
    let rows = c.close_over.ensures.trail.same_rows in let rows_then = c.set_bit_reserved.ensures.trail.same_rows in
    let sized = c.requires.sized.0 in omega arith

pub set_bit_reserved-requires-2-clause-column_in : goal.set_bit_reserved-requires-2-clause-column_in
set_bit_reserved-requires-2-clause-column_in g c =
    let words = c.close_over.ensures.trail.same_words in let words_then = c.set_bit_reserved.ensures.trail.same_words in
    let wide = c.requires.sized.1 in let inside = c.requires.b_in in omega arith

pub set_bit_reserved-requires-2-clause-room : goal.set_bit_reserved-requires-2-clause-room
set_bit_reserved-requires-2-clause-room g c =
    let room = c.requires.room in let left = c.close_over.ensures.room in let left_then = c.set_bit_reserved.ensures.room in omega arith

pub returns-clause-entered : goal.returns-clause-entered
returns-clause-entered g c =
    let v = c.args.table.now in
    entered_edge c.args.nodes v c.close_over.new.table c.set_bit_reserved.new.self c.set_bit_reserved-2.new.self c.args.a c.args.b
    (c.args.nodes * (v.words + 1)) c.requires.sized c.close_over.ensures.trail c.set_bit_reserved.ensures.trail
    c.close_over.ensures.closed c.close_over.ensures.others c.set_bit_reserved.ensures.set c.set_bit_reserved-2.ensures.set

pub returns-clause-trail : goal.returns-clause-trail
returns-clause-trail g c =
    let v = c.args.table.now in let w = c.close_over.new.table in let s = c.set_bit_reserved.new.self in let t = c.set_bit_reserved-2.new.self in
    extends_then v w t (c.args.nodes * (v.words + 1)) 2 c.close_over.ensures.trail
    (extends_then w s t 1 1 c.set_bit_reserved.ensures.trail c.set_bit_reserved-2.ensures.trail)

pub returns-clause-cost : goal.returns-clause-cost
returns-clause-cost g c = c.close_over.ensures.cost
