use Rattle.std.proofs.Common.{◌≤◌}
use Rattle.pc_ground.specs.declared.ground.Ground.{size-Ground}
use Rattle.pc_ground.proofs.ground.Ground.+drop.Given as goal

abbrev pub invariant-loop-self : goal.invariant-loop-self
invariant-loop-self l = size-Ground l.self ≤ size-Ground l.initial.self
