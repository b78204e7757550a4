use Rattle.std.proofs.Common.{length}
use Rattle.static_preds.proofs.SlotsBelow.{slots_below}
use Rattle.lifted_facts.proofs.falsity.is_false_said.Goals as goal

pub holds-requires-clause-below : goal.holds-requires-clause-below
holds-requires-clause-below c = slots_below (length c.args.case.now.ops) c.args.said.now.env.items c.in-Static.args c.requires.1.ops
