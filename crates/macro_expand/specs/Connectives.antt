-- What joins two formulas, and what binds a name in one.
use Rattle.std.specs.Prelude.{ℕ, List}
use Rattle.pc_common.specs.declared.place.Place.{Place}
use Rattle.pc_syntax.specs.declared.term.Sort.{Sort}
use Rattle.pc_syntax.specs.Written.{Written, and_, or_, implies_, forall_, exists_}
use Rattle.macro_expand.specs.declared.connective.Connective.{Connective, TheVariants.{And, Or, Implies}}
use Rattle.macro_expand.specs.declared.quantifier.Quantifier.{Quantifier, TheVariants.{Forall, Exists}}

abbrev pub joined_by : Connective → Written → Written → Written
joined_by And p q = and_ p q
joined_by Or p q = or_ p q
joined_by Implies p q = implies_ p q

abbrev pub bound_by : Quantifier → Place → Sort → List ℕ → Written → Written
bound_by Forall at sort name p = forall_ at sort name p
bound_by Exists at sort name p = exists_ at sort name p
