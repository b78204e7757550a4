-- What a call that writes a text keeps of a sink, and how much of the text went out.
use Rattle.std.specs.Prelude.{◌≡◌, ◌≤◌, ◌++◌, ℕ, List, Result, Ok, Err, OnErr, IsTrue}
use Rattle.pc_common.specs.{Outside.{SinkView}, Faults.{Rose}, Pieces.{IsCutShort}}

-- all of the text stands after what was there, or, where a call failed, its first bytes
abbrev pub Went : {T E : Type 0} → Result T E → List ℕ → List ℕ → List ℕ → Type 0
Went (Ok x) before text after = after ≡ before ++ text
Went (Err e) before text after = IsCutShort before text after

-- `view` is that of the sink's kind
pub record Writes {K : Type 0} (view : K → SinkView) (old new : K) {T E : Type 0} (result : Result T E)
    (text : List ℕ) : Type 0 where
  pub same_modelled : (view new).modelled ≡ (view old).modelled
  pub count : (view old).faults ≤ (view new).faults
  pub cause : OnErr result (Rose (view old).faults (view new).faults)
  pub went : IsTrue (view old).modelled → Went result (view old).taken text (view new).taken

-- the result of a call that went well, and says nothing
abbrev pub success : Result (Unit {0}) ⊥
success = Ok tt
