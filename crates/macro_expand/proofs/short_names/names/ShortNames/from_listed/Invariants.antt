use Rattle.std.proofs.Common.{◌≡◌, length}
use Rattle.macro_expand.specs.Numbers.{HasNumbers}
use Rattle.macro_expand.proofs.short_names.names.ShortNames.from_listed.Given as goal

abbrev pub invariant-loop-number : goal.invariant-loop-number
invariant-loop-number l = (length l.shorts ≡ l.number) × HasNumbers l.shorts l.number
