use Rattle.std.proofs.Common.{option_map, ap, ◌∙◌}
use Rattle.pc_syntax.specs.Scope.{binding_of}
use Rattle.scope_check.{specs.Bindings.{binding}, proofs.ScopeLists.{find_is}}
use Rattle.scope_check.proofs.scope.Scope.find.Goals as goal

pub returns : goal.returns
returns c =
    ap (option_map binding) c.first_named.ensures ∙ find_is c.variables.result.now c.args.name.now ∙ ap (λ s. binding_of s c.args.name.now) c.variables.ensures
