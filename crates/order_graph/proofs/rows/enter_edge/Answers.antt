use Rattle.std.proofs.Common.{◌≡◌, ◌+◌, ◌*◌, sym, ◌∙◌, ap}
use Rattle.undo_trail.specs.BitTable.{BitTable}
use Rattle.order_graph.{specs.Rows.{words_gained, row_words}, proofs.EntersBits.{entered_known, extends_same, same_edge, same_extends, same_gained, same_takes}}
use Rattle.order_graph.proofs.rows.enter_edge.Goals as goal

pub returns-then-reaches-clause-entered : goal.returns-then-reaches-clause-entered
returns-then-reaches-clause-entered g c =
    entered_known c.args.nodes c.args.table.now c.args.a c.args.b c.requires.a_in c.requires.b_in c.requires.sized.1 c.requires.takes
    (sym c.reaches.ensures ∙ c.if-reaches.true)

pub returns-then-reaches-clause-trail : goal.returns-then-reaches-clause-trail
returns-then-reaches-clause-trail g c = extends_same c.args.table.now (c.args.nodes * (c.args.table.now.words + 1) + 2)

pub enter_edge_reserved-requires-clause-takes : goal.enter_edge_reserved-requires-clause-takes
enter_edge_reserved-requires-clause-takes g c =
    same_takes c.args.nodes c.args.table.now c.reserve_gained.new.table c.args.a c.args.b c.reserve_gained.ensures.same c.requires.takes

pub enter_edge_reserved-requires-clause-sink : goal.enter_edge_reserved-requires-clause-sink
enter_edge_reserved-requires-clause-sink g c = rw c.reserve_gained.ensures.same c.is_sink-is_sink.ensures

pub returns-clause-entered : goal.returns-clause-entered
returns-clause-entered g c =
    same_edge c.args.nodes c.args.table.now c.reserve_gained.new.table c.enter_edge_reserved.new.table c.args.a c.args.b
    c.reserve_gained.ensures.same c.enter_edge_reserved.ensures.entered

pub enter_edge_reserved-requires-clause-room : goal.enter_edge_reserved-requires-clause-room
enter_edge_reserved-requires-clause-room g c =
    let v = c.args.table.now in let u = c.reserve_gained.new.table in
    let n = c.args.nodes in let a = c.args.a in let b = c.args.b in
    let same = c.reserve_gained.ensures.same in let is_sink = c.is_sink-is_sink.result in
    let each : row_words u is_sink ≡ c.row_words-each.result = ap (λ (x : BitTable). row_words x is_sink) same ∙ sym c.row_words-each.ensures.value in
    let words : words_gained u a b (row_words u is_sink) n ≡ words_gained v a b c.row_words-each.result n =
    same_gained v u a b (row_words u is_sink) n same ∙ ap (λ z. words_gained v a b z n) each in
    rw words c.in_ok-reserve_gained.ensures.room

pub returns-clause-trail : goal.returns-clause-trail
returns-clause-trail g c =
    let v = c.args.table.now in let u = c.reserve_gained.new.table in
    let words : u.words ≡ v.words = ap (λ (x : BitTable). x.words) c.reserve_gained.ensures.same in
    rw words at (same_extends v u c.enter_edge_reserved.new.table (c.args.nodes * (u.words + 1) + 2) c.reserve_gained.ensures.same
    c.enter_edge_reserved.ensures.trail)

pub returns-clause-cost : goal.returns-clause-cost
returns-clause-cost g c = c.enter_edge_reserved.ensures.cost
