-- What contracts see of the outside: of files that are read, and of a sink that is written.
use Rattle.std.specs.Prelude.{ℕ, Bool, List, Option}

pub record FilesView : Type 0 where
  -- clauses say which bytes the names hold; of those on a disk they say nothing
  pub modelled : Bool
  -- where modelled: the bytes that a name holds, or None where it is missing
  pub holds : List ℕ → Option (List ℕ)
  -- where modelled: what is left of the file that was started
  pub left : List ℕ
  -- a file is started: after a `start` that answered Ok, until a call fails
  pub started : Bool
  -- how many calls failed; it stays at the greatest u64
  pub faults : ℕ
  -- nothing fails but a `start` of a missing name
  pub only_missing_fail : Bool

pub record SinkView : Type 0 where
  -- clauses say which bytes were taken; of standard output they say nothing
  pub modelled : Bool
  -- where modelled: all bytes taken so far
  pub taken : List ℕ
  -- how many calls failed; it stays at the greatest u64
  pub faults : ℕ
