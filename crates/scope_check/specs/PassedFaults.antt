-- The fault of a formula whose part has one.
use Rattle.std.specs.Prelude.{◌≡◌, Result, Ok, Err, None}
use Rattle.pc_common.specs.declared.fault.Which.TheVariants.{Query}
use Rattle.scope_check.specs.{FirstFault.{name_fault_of}, declared.filed.Filed.{Filed}}

-- memory was refused
abbrev pub IsRefusal : Filed → Type 0
IsRefusal e = (e.file ≡ Query) × (name_fault_of e.fault ≡ None)

-- the part's fault, or that memory was refused where it has none
abbrev pub IsPassedOn : {T : Type 0} → Result T Filed → Filed → Type 0
IsPassedOn (Ok part) e = IsRefusal e
IsPassedOn (Err fault) e = e ≡ fault
