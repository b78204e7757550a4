use Rattle.std.{proofs.Common.{arith, ◌≡◌}, specs.Prelude.{codes}}
use Rattle.gen_command.proofs.Lines.{ring_more, ring_end}
use Rattle.gen_command.proofs.litmus.ring_test.Goals as goal

pub loop-core-preserved : goal.loop-core-preserved
loop-core-preserved c =
    ring_more (codes "Litmus \"ring\".\n") c.loop-core.text.items c.put_core.new.text.items c.args.n c.loop-core.core c.loop-core.invariant
    c.in_ok-put_core.ensures

pub returns : goal.returns
returns c =
    let all : c.loop-core.core ≡ c.args.n = omega arith in
    ring_end (codes "Litmus \"ring\".\n") (codes "Forbidden.\n") c.loop-core.text.items c.put-2.new.text.items c.args.n c.loop-core.core
    c.loop-core.invariant all c.in_ok-put-2.ensures
