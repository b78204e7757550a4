use Rattle.std.proofs.Common.{◌+◌, ◌*◌, arith}
use Rattle.undo_trail.proofs.ExtendsLaws.{extends_then, extends_more}
use Rattle.order_graph.proofs.EntersBits.{entered_pair, same_extends}
use Rattle.order_graph.proofs.rows.enter_pair.Goals as goal

pub returns-clause-entered : goal.returns-clause-entered
returns-clause-entered c =
    entered_pair c.args.nodes c.args.table.now c.reserve.new.self c.set_bit_reserved.new.self c.set_bit_reserved-2.new.self c.args.a c.args.b
    c.requires.sized c.requires.a_in c.reserve.ensures.same c.set_bit_reserved.ensures.trail
    c.set_bit_reserved.ensures.set c.set_bit_reserved-2.ensures.set

pub returns-clause-trail : goal.returns-clause-trail
returns-clause-trail c =
    let v = c.args.table.now in let u = c.reserve.new.self in let w = c.set_bit_reserved.new.self in let t = c.set_bit_reserved-2.new.self in
    extends_more v t 2 (c.args.nodes * (v.words + 1) + 2) (omega arith)
    (same_extends v u t 2 c.reserve.ensures.same (extends_then u w t 1 1 c.set_bit_reserved.ensures.trail c.set_bit_reserved-2.ensures.trail))
