-- Each predicate is found by its name: none is left out of the code's list, and no two have one name.
use Rattle.std.proofs.Common.{◌≡◌, Some, refl}
use Rattle.pc_syntax.specs.declared.pred.Pred.{Pred}
use Rattle.pc_syntax.specs.declared.pred.Pred.TheVariants.{True, False, IsAnyRead, IsAnyWrite, IsAnyFence, AccessType, OnCore, SameCore, SameThread}
use Rattle.pc_syntax.specs.declared.pred.Pred.TheVariants.{SameMicroop, SameInstruction, SameIntra, ProgramOrder, SameVirtualAddress}
use Rattle.pc_syntax.specs.declared.pred.Pred.TheVariants.{SamePhysicalAddress, SameVirtualTag, SamePhysicalTag, SameIndex, SameData}
use Rattle.pc_syntax.specs.declared.pred.Pred.TheVariants.{DataFromInitialStateAtPA, DataFromFinalStateAtPA, HasDependency, EntryOf, MapsTagOf}
use Rattle.pc_syntax.specs.declared.pred.Pred.TheVariants.{MarkedAccessed, MarkedDirty}
use Rattle.pc_syntax.specs.Predicates.{pred_name, pred_with_name, all_preds}

pub found_by_name : (p : Pred) → pred_with_name (pred_name p) ≡ Some p
unfolding all_preds
found_by_name True = refl
found_by_name False = refl
found_by_name IsAnyRead = refl
found_by_name IsAnyWrite = refl
found_by_name IsAnyFence = refl
found_by_name AccessType = refl
found_by_name OnCore = refl
found_by_name SameCore = refl
found_by_name SameThread = refl
found_by_name SameMicroop = refl
found_by_name SameInstruction = refl
found_by_name SameIntra = refl
found_by_name ProgramOrder = refl
found_by_name SameVirtualAddress = refl
found_by_name SamePhysicalAddress = refl
found_by_name SameVirtualTag = refl
found_by_name SamePhysicalTag = refl
found_by_name SameIndex = refl
found_by_name SameData = refl
found_by_name DataFromInitialStateAtPA = refl
found_by_name DataFromFinalStateAtPA = refl
found_by_name HasDependency = refl
found_by_name EntryOf = refl
found_by_name MapsTagOf = refl
found_by_name MarkedAccessed = refl
found_by_name MarkedDirty = refl
