-- A scope with other names.
use Rattle.pc_syntax.specs.{Scope.{Binding}, Renaming.{Renaming}}

abbrev pub renamed_binding : Renaming → Binding → Binding
renamed_binding ρ b = record { name = ρ b.name; sort = b.sort; slot = b.slot }
