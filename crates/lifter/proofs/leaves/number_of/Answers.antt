use Rattle.lifter.proofs.leaves.number_of.Goals as goal

pub unreachable-requires : goal.unreachable-requires
unreachable-requires c = c.in-None.ensures c.requires.0 c.requires.1
