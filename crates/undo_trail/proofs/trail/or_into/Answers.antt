use Rattle.std.proofs.Common.{arith}
use Rattle.undo_trail.proofs.OrInto.{joining_more}
use Rattle.undo_trail.proofs.trail.or_into.Goals as goal

pub loop-k-preserved : goal.loop-k-preserved
loop-k-preserved c = record {
  words = joining_more c.args.trail.now.items c.args.table.now c.args.to c.args.from c.args.words c.loop-k.trail.items
      c.loop-k.table c.loop-k.changed c.loop-k.k
      c.requires.apart c.loop-k-test.true (let s = c.loop-k.auto.table in let h = c.requires.to_in in omega arith) c.loop-k.invariant.words
      c.put-changed.new.trail.items c.put-changed.new.table c.put-changed.result c.put-changed.ensures.set
      c.put-changed.ensures.grows c.put-changed.ensures.changed;
  capacity = (let g = c.put-changed.ensures.capacity in let h = c.loop-k.invariant.capacity in omega arith);
  len = (let g = c.put-changed.ensures.len in let h = c.loop-k.invariant.len in omega arith);
}
