-- The case of a listing without a fault.
use Rattle.std.specs.Prelude.{ℕ, zero, suc, ◌+◌, ◌==◌, Bool, true, false, List, [], ◌∷◌, ◌++◌, Option, Some, None, map, fold, filter, codes, if◌then◌else◌}
use Rattle.std.specs.List.{list_any, position_or_len}
use Rattle.pc_common.specs.Names.{same_name}
use Rattle.pc_common.specs.Case.{Address, page, Value, number, Touch, Kind, read, write, fence as a_fence, MicroOp, Expectation, forbidden, unstated, Case}
use Rattle.x86_litmus.specs.{Listing.{Action, fence, store, load}, Said.{Instruction, Asked, Said, is_about}}

-- the words with this one after them, where it is not among them
abbrev pub seen : List (List ℕ) → List ℕ → List (List ℕ)
seen words w = if list_any (same_name w) words then words else words ++ w ∷ []

abbrev pub seen_value : List (List ℕ) → List ℕ × ℕ → List (List ℕ)
seen_value words e = seen words e.0

abbrev pub seen_in : List (List ℕ) → Action → List (List ℕ)
seen_in words fence = words
seen_in words (store location value) = seen words location.word
seen_in words (load register location) = seen words location.word

abbrev pub seen_by : List (List ℕ) → Instruction → List (List ℕ)
seen_by words i = seen_in words i.action

-- each location once, as first named: in the block, in the rows, in the condition
abbrev pub locations : Said → List (List ℕ)
locations s = fold seen_value (fold seen_by (fold seen_value [] s.initial) s.instructions) s.final

abbrev pub number_of : List (List ℕ) → List ℕ → ℕ
number_of words w = position_or_len (same_name w) words

-- the value that the condition gives the thread's register
abbrev pub asked_value : List Asked → ℕ → List ℕ → ℕ
asked_value [] thread register = 0
asked_value (a ∷ as_) thread register = if is_about thread register a then a.value else asked_value as_ thread register

-- the instructions of the first columns, column by column, each from top to bottom
abbrev pub test_order : ℕ → List Instruction → List Instruction
test_order zero is = []
test_order (suc k) is = test_order k is ++ filter (λ (i : Instruction). i.thread == k) is

-- location k is VA (k, 0) and PA (k, 0)
abbrev pub address_of : ℕ → Address
address_of k = page (record { tag = k; index = 0 })

abbrev pub touch_of : ℕ → ℕ → Touch
touch_of k value = record { va = record { tag = k; index = 0 }; pa = address_of k; value = number value }

abbrev pub types_of : Action → List (List ℕ)
types_of fence = codes "MFENCE" ∷ []
types_of _ = []

abbrev pub kind_of_action : Action → Kind
kind_of_action fence = a_fence
kind_of_action (store location value) = write
kind_of_action (load register location) = read

-- a store has its number, a load the one that the condition gives its register
abbrev pub touched : List (List ℕ) → List Asked → ℕ → Action → Option Touch
touched words asked thread fence = None
touched words asked thread (store location value) = Some (touch_of (number_of words location.word) value)
touched words asked thread (load register location) =
    Some (touch_of (number_of words location.word) (asked_value asked thread register.word))

-- instruction g
abbrev pub op_of : List (List ℕ) → List Asked → ℕ → Instruction → MicroOp
op_of words asked g i = record {
  g = g;
  n = 0;
  core = i.thread;
  thread = i.thread;
  types = types_of i.action;
  kind = kind_of_action i.action;
  touch = touched words asked i.thread i.action;
}

-- the instructions, numbered from g
abbrev pub numbered : List (List ℕ) → List Asked → ℕ → List Instruction → List MicroOp
numbered words asked g [] = []
numbered words asked g (i ∷ is) = op_of words asked g i ∷ numbered words asked (g + 1) is

abbrev pub stated : List (List ℕ) → List (List ℕ × ℕ) → List (Address × Value)
stated words values = map (λ (e : List ℕ × ℕ). (address_of (number_of words e.0), number e.1)) values

-- ~exists forbids, exists is no expectation
abbrev pub expectation_of : Bool → Expectation
expectation_of false = unstated
expectation_of true = forbidden

abbrev pub case_of : Said → Case
case_of s = record {
  ops = numbered (locations s) s.asked 0 (test_order s.columns s.instructions);
  dependencies = [];
  initial = stated (locations s) s.initial;
  final = stated (locations s) s.final;
  expectation = expectation_of s.is_denied;
}
