-- The files passed so far have other names.
use Rattle.std.proofs.Common.{◌≡◌, drop}
use Rattle.pc_common.specs.Held.{held_bytes}
use Rattle.pc_common.proofs.shelf.Shelf.place_of.Given as goal

abbrev pub invariant-loop-k : goal.invariant-loop-k
invariant-loop-k l = held_bytes (drop l.k l.self.held) l.name ≡ held_bytes l.self.held l.name
