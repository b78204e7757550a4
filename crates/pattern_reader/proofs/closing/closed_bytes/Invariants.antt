use Rattle.std.proofs.Common.{◌≡◌, take, map}
use Rattle.pattern_reader.specs.{Opens.{plain_open}, Closing.{closed_bytes}}
use Rattle.pattern_reader.proofs.closing.closed_bytes.Given as goal

abbrev pub invariant-loop-any : goal.invariant-loop-any
invariant-loop-any l = l.closed.items ≡ closed_bytes l.bytes (map plain_open (take l.any-index l.opens))
