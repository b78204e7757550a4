-- What the two statuses of a verdict say of a model and a case.
use Rattle.std.specs.Prelude.{◌≡◌}
use Rattle.pc_common.specs.{Case.{Case}, declared.status.Status.{Status, TheVariants.{Observable as is_observable, Unobservable as is_unobservable}}}
use Rattle.pc_syntax.specs.{Written.{WrittenModel}, Observable.{Observable}}

-- observable only where some choice of nodes with some strict order makes every axiom true, and unobservable only where
-- none does
abbrev pub IsTrueStatus : WrittenModel → Case → Status → Type 0
IsTrueStatus m c status = (status ≡ is_observable → Observable m c) × (status ≡ is_unobservable → Observable m c → ⊥)

-- observable wherever some choice does, and unobservable wherever none does
abbrev pub IsDueStatus : WrittenModel → Case → Status → Type 0
IsDueStatus m c status = (Observable m c → status ≡ is_observable) × ((Observable m c → ⊥) → status ≡ is_unobservable)
