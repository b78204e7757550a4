use Rattle.std.proofs.lemmas.List.{take_all}
use Rattle.graph_check.proofs.{Numbers.{seen_first}, FirstMembers.{item_at}}
use Rattle.graph_check.proofs.order.number_all.Goals as goal

pub loop-key-preserved : goal.loop-key-preserved
loop-key-preserved c =
    let there = item_at c.args.keys.now c.loop-key.key-index c.key-item.result c.loop-key-test.true c.key-item.is in
    seen_first c.loop-key.nodes c.see.new.self c.args.keys.now c.loop-key.key-index c.key-item.result there c.in_ok-see.ensures c.loop-key.invariant

pub returns : goal.returns
returns c = rw (take_all c.loop-key.key-index c.args.keys.now c.loop-key-test.false) at c.loop-key.invariant
