use Rattle.std.proofs.Common.{◌≡◌, ◌++◌, take, map}
use Rattle.macro_expand.proofs.short_names.listing.list_stages.Given as goal

abbrev pub invariant-loop-stage : goal.invariant-loop-stage
invariant-loop-stage l = l.names ≡ l.initial.names ++ map (λ s. s.name.name) (take l.stage-index l.stages)
