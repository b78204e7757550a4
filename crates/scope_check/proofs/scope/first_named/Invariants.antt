-- The variables up to here have other names.
use Rattle.std.{proofs.Common.{◌≡◌, drop}, specs.List.{find}}
use Rattle.pc_common.specs.Names.{same_name}
use Rattle.scope_check.proofs.scope.first_named.Given as goal

abbrev pub invariant-loop-k : goal.invariant-loop-k
invariant-loop-k l =
    find (λ v. same_name v.name.now l.name) l.variables ≡ find (λ v. same_name v.name.now l.name) (drop l.k l.variables)
