-- The arguments of a predicate, once their names are resolved, and tests of them.
use Rattle.std.specs.{Prelude.{ℕ, Bool, false, List, Option, Some, None, slice_get}, Option.{option_and_then, option_zip}}
use Rattle.pc_common.specs.Case.{Touch, MicroOp, Case}

-- an argument: a micro-op by its place in test order, a core, or a plain name
pub data Argument : Type 0 where
  op_at : ℕ → Argument
  core_at : ℕ → Argument
  plain_name : List ℕ → Argument

-- the place of a micro-op, a core, or a plain name, where the argument is one
abbrev pub place_argument : Argument → Option ℕ
place_argument (op_at i) = Some i
place_argument (core_at k) = None
place_argument (plain_name name) = None

abbrev pub core_argument : Argument → Option ℕ
core_argument (op_at i) = None
core_argument (core_at k) = Some k
core_argument (plain_name name) = None

abbrev pub plain_argument : Argument → Option (List ℕ)
plain_argument (op_at i) = None
plain_argument (core_at k) = None
plain_argument (plain_name name) = Some name

-- so is the argument at place k
abbrev pub place_in : List Argument → ℕ → Option ℕ
place_in args k = option_and_then place_argument (slice_get args k)

abbrev pub core_in : List Argument → ℕ → Option ℕ
core_in args k = option_and_then core_argument (slice_get args k)

abbrev pub plain_in : List Argument → ℕ → Option (List ℕ)
plain_in args k = option_and_then plain_argument (slice_get args k)

-- the micro-op that is the argument at place k, and what it touches
abbrev pub op_in : Case → List Argument → ℕ → Option MicroOp
op_in c args k = option_and_then (slice_get c.ops) (place_in args k)

abbrev pub touch_in : Case → List Argument → ℕ → Option Touch
touch_in c args k = option_and_then (λ o. o.touch) (op_in c args k)

-- a test of what may not be there, false where it isn't
abbrev pub holds_of : {A : Type 0} → Option A → (A → Bool) → Bool
holds_of None test = false
holds_of (Some x) test = test x

abbrev pub holds_of_both : {A B : Type 0} → Option A → Option B → (A → B → Bool) → Bool
holds_of_both a b test = holds_of (option_zip a b) (λ p. test p.0 p.1)
