use Rattle.std.proofs.Common.{◌≡◌, ◌++◌, replicate, take}
use Rattle.macro_expand.proofs.short_names.names.unlisted_name.Given as goal

abbrev pub invariant-loop-byte : goal.invariant-loop-byte
invariant-loop-byte l = l.bytes ≡ replicate 9 0 ++ take l.byte-index l.name
