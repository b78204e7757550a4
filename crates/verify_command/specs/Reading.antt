-- What tells the first line of a file, and what a checker is fed of one.
use Rattle.std.specs.Prelude.{◌≡◌, ◌⊎◌, ◌≤◌, ◌+◌, ℕ, List, [], Option, Some, length}
use Rattle.pc_common.specs.declared.limits.TheConstants.{MAX_CERTIFICATE}
use Rattle.lifted_check.specs.{Fed.{IsFed}, declared.checker.LiftedChecker.{LiftedChecker}}
use Rattle.command_base.specs.Feeding.{TookFirst}

-- these first bytes tell whether the first line is unobservable: they are as many, with its LF, or nothing else is left
abbrev pub IsEnough : List ℕ → List ℕ → Type 0
IsEnough first left = (13 ≤ length first) ⊎ (left ≡ [])

-- the checker took the first bytes of a file that is held, of which this is left: all of them, or one more than a
-- certificate may have
pub record TookFile (old new : LiftedChecker) (held : Option (List ℕ)) (after : List ℕ) : Type 0 where
  pub whole : List ℕ
  pub held_is : held ≡ Some whole
  pub first : TookFirst IsFed old new (MAX_CERTIFICATE + 1) whole after
