use Rattle.std.proofs.Common.{◌≡◌, take, fold}
use Rattle.x86_litmus.specs.Cases.{seen_value}
use Rattle.x86_litmus.proofs.locations.Locations.see_values.Given as goal

abbrev pub invariant-loop-k : goal.invariant-loop-k
invariant-loop-k l = l.self ≡ fold seen_value l.initial.self (take l.k l.values)
