-- A variable of a scope, as a binding.
use Rattle.pc_syntax.specs.Scope.{Binding}
use Rattle.scope_check.specs.declared.scope.Variable.{Variable}

abbrev pub binding : Variable → Binding
binding v = record { name = v.name.now; sort = v.sort; slot = v.slot }
