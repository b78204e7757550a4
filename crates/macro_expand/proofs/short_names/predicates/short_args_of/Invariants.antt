use Rattle.std.proofs.Common.{◌≡◌, take}
use Rattle.pc_syntax.specs.{Predicates.{takes_of}, Renaming.{renamed_args}}
use Rattle.macro_expand.specs.Numbers.{short_name}
use Rattle.macro_expand.proofs.short_names.predicates.short_args_of.Given as goal

abbrev pub invariant-loop-place : goal.invariant-loop-place
invariant-loop-place l = l.shorts ≡ renamed_args (short_name l.names) (takes_of l.pred) (take l.place l.args)
