-- What a checker is fed of a file.
use Rattle.std.specs.Prelude.{◌≡◌, ◌⊎◌, ◌≤◌, ◌++◌, ℕ, List, [], length, IsTrue}
use Rattle.pc_common.specs.Outside.{FilesView}

-- whatever the old checker was fed, the new one was fed with these bytes after it
abbrev pub Took : {C Q : Type 0} → (C → Q → List ℕ → Type 0) → C → C → List ℕ → Type 0
Took {Q = Q} is_fed old new bytes = (q : Q) (text : List ℕ) → is_fed old q text → is_fed new q (text ++ bytes)

-- the checker took the first bytes of what was left: all of them, or as many as the limit
pub record TookFirst {C Q : Type 0} (is_fed : C → Q → List ℕ → Type 0) (old new : C) (limit : ℕ)
    (before after : List ℕ) : Type 0 where
  pub bytes : List ℕ
  pub are_first : before ≡ bytes ++ after
  pub within : length bytes ≤ limit
  pub enough : (after ≡ []) ⊎ (length bytes ≡ limit)
  pub took : Took is_fed old new bytes

-- so it is with what was left of a file that is modelled
abbrev pub TookLeft : {C Q : Type 0} → (C → Q → List ℕ → Type 0) → C → C → ℕ → FilesView → FilesView → Type 0
TookLeft is_fed old new limit before after = IsTrue before.modelled → TookFirst is_fed old new limit before.left after.left
