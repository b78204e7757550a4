use Rattle.std.proofs.Common.{arith, get_or}
use Rattle.litmus_reader.proofs.RowFacts.{place_in-is, is_named-of, nobody}
use Rattle.litmus_reader.proofs.rows.place_of.Goals as goal

pub returns-then-head-end-2 : goal.returns-then-head-end-2
returns-then-head-end-2 c =
    place_in-is c.args.before.now c.args.end c.loop-k.k (omega arith) c.loop-k.invariant
    (λ below. is_named-of c.args.end (get_or c.args.before.now c.loop-k.k nobody) c.if-head-end.true c.if-head-end-2.true)

pub returns : goal.returns
returns c =
    place_in-is c.args.before.now c.args.end _ (omega arith) (λ j h below. c.loop-k.invariant j h (omega arith)) (λ below. absurd (omega arith))
