-- What a listing has said up to some place.
use Rattle.std.specs.{Prelude.{ℕ, ◌+◌, ◌==◌, Bool, true, false, ◌&&◌, List, [], ◌∷◌, ◌++◌}, List.{list_any}}
use Rattle.pc_common.specs.Names.{same_name}
use Rattle.x86_litmus.specs.{Listing.{Action, fence, store, load}, Items.{Item, initial, column, instructed, row_ended, denied, register_is, final}}

-- an instruction of a thread, whose word stands at a place
pub record Instruction : Type 0 where
  pub thread : ℕ
  pub at : ℕ
  pub action : Action

-- the value that the condition gives a register
pub record Asked : Type 0 where
  pub thread : ℕ
  pub register : List ℕ
  pub value : ℕ

pub record Said : Type 0 where
  -- locations and their values before the test
  pub initial : List (List ℕ × ℕ)
  -- how many columns there are
  pub columns : ℕ
  -- in the order of the text
  pub instructions : List Instruction
  -- locations and their values after the test
  pub final : List (List ℕ × ℕ)
  pub asked : List Asked
  pub is_denied : Bool

abbrev pub nothing : Said
nothing = record { initial = []; columns = 0; instructions = []; final = []; asked = []; is_denied = false }

-- one item more
abbrev pub add : Said → Item → Said
add s (initial n v) = record {
  initial = s.initial ++ (n.word, v) ∷ [];
  columns = s.columns;
  instructions = s.instructions;
  final = s.final;
  asked = s.asked;
  is_denied = s.is_denied;
}
add s (column n) = record {
  initial = s.initial;
  columns = s.columns + 1;
  instructions = s.instructions;
  final = s.final;
  asked = s.asked;
  is_denied = s.is_denied;
}
add s (instructed thread at action) = record {
  initial = s.initial;
  columns = s.columns;
  instructions = s.instructions ++ record { thread = thread; at = at; action = action } ∷ [];
  final = s.final;
  asked = s.asked;
  is_denied = s.is_denied;
}
add s (row_ended cells at) = s
add s denied = record {
  initial = s.initial;
  columns = s.columns;
  instructions = s.instructions;
  final = s.final;
  asked = s.asked;
  is_denied = true;
}
add s (register_is thread at register value) = record {
  initial = s.initial;
  columns = s.columns;
  instructions = s.instructions;
  final = s.final;
  asked = s.asked ++ record { thread = thread; register = register.word; value = value } ∷ [];
  is_denied = s.is_denied;
}
add s (final n v) = record {
  initial = s.initial;
  columns = s.columns;
  instructions = s.instructions;
  final = s.final ++ (n.word, v) ∷ [];
  asked = s.asked;
  is_denied = s.is_denied;
}

abbrev pub is_load_of : List ℕ → Action → Bool
is_load_of register fence = false
is_load_of register (store location value) = false
is_load_of register (load r location) = same_name register r.word

-- whether the thread loads the register
abbrev pub loads : List Instruction → ℕ → List ℕ → Bool
loads instructions thread register =
    list_any (λ (i : Instruction). (i.thread == thread) && is_load_of register i.action) instructions

abbrev pub is_about : ℕ → List ℕ → Asked → Bool
is_about thread register a = (a.thread == thread) && same_name register a.register

-- whether the condition gives the thread's register a value
abbrev pub gives : List Asked → ℕ → List ℕ → Bool
gives asked thread register = list_any (is_about thread register) asked
