-- What a call that reads keeps of files.
use Rattle.std.specs.Prelude.{◌≡◌, ◌≤◌, ◌<◌, ◌+◌, ◌++◌, ℕ, List, Some, length, IsTrue}
use Rattle.pc_common.specs.Outside.{FilesView}

-- `view` is that of the files' kind
pub record Reads {F : Type 0} (view : F → FilesView) (old new : F) : Type 0 where
  pub same_modelled : (view new).modelled ≡ (view old).modelled
  pub same_held : (view new).holds ≡ (view old).holds
  pub same_failing : (view new).only_missing_fail ≡ (view old).only_missing_fail
  pub count : (view old).faults ≤ (view new).faults

-- where modelled: the name holds more bytes than the limit
abbrev pub HoldsMore : FilesView → List ℕ → ℕ → Type 0
HoldsMore view name limit =
    IsTrue view.modelled → (bytes : List ℕ) × (view.holds name ≡ Some bytes) × (limit < length bytes)

-- where modelled: of what the name holds exactly one byte past the limit was read
abbrev pub StopsPast : FilesView → FilesView → List ℕ → ℕ → Type 0
StopsPast old new name limit =
    IsTrue old.modelled → (read : List ℕ) × (length read ≡ limit + 1) × (old.holds name ≡ Some (read ++ new.left))
