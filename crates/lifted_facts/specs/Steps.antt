-- The steps of the code.
use Rattle.lifted_facts.specs.declared.step.{FactLeaf.{FactLeaf, TheVariants.{False, Cycle, Path, Absent}}, FactStep.{FactStep, TheVariants.{Derive, Split, Close}}}
use Rattle.lifted_facts.specs.Lifted.{LiftedLeaf, falsity, cycle, path, absent, LiftedStep, derive, split, close}

abbrev pub plain_leaf : FactLeaf → LiftedLeaf
plain_leaf (False k) = falsity k
plain_leaf (Cycle k ks) = cycle k ks.now
plain_leaf (Path k ks denial) = path k ks.now denial
plain_leaf (Absent denial k) = absent denial k

abbrev pub plain_step : FactStep → LiftedStep
plain_step (Derive way k) = derive way k
plain_step (Split k) = split k
plain_step (Close l) = close (plain_leaf l)
