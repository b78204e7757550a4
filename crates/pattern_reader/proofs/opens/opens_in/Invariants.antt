use Rattle.std.proofs.Common.{◌≡◌, ◌≤◌, length, map}
use Rattle.pattern_reader.specs.Opens.{AreSeen, opens_among, plain_open}
use Rattle.pattern_reader.proofs.opens.opens_in.Given as goal

abbrev pub invariant-loop-k : goal.invariant-loop-k
invariant-loop-k l =
    AreSeen l.tokens l.k l.seen × (map plain_open l.opens.items ≡ opens_among l.tokens l.k) × (length l.opens.items ≤ l.k)
