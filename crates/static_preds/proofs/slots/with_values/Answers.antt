use Rattle.std.proofs.Common.{arith}
use Rattle.pc_syntax.specs.{Closed.{meaning_of, closed_value}, IsClosed.{sort_of}}
use Rattle.static_preds.{specs.Values.{sort_bound, scope_of, meanings}, proofs.{Walked.{mapped_more}, SlotLaws.{slot_more}}}
use Rattle.static_preds.proofs.slots.with_values.Goals as goal

pub loop-k-preserved : goal.loop-k-preserved
loop-k-preserved c =
    let env = c.args.env.now.items in let inside = c.loop-k.inside.items in
    record {
      count = omega (arith, c.push.ensures.len, c.loop-k.invariant.count);
      meanings = mapped_more meaning_of (closed_value (meanings env)) (meanings env) inside c.push.new.self.items c.args.args.now c.loop-k.k c.value_of.result
          c.get.result.now c.get.ensures c.push.ensures.items c.value_of.ensures.value c.loop-k.invariant.meanings;
      scope = mapped_more sort_bound (sort_of (scope_of env)) (scope_of env) inside c.push.new.self.items c.args.args.now c.loop-k.k c.value_of.result
          c.get.result.now c.get.ensures c.push.ensures.items c.value_of.ensures.sort c.loop-k.invariant.scope;
      range = λ d h. rw c.push.ensures.items (slot_more d inside c.value_of.result (c.loop-k.invariant.range d h) (c.value_of.ensures.range d h));
    }
