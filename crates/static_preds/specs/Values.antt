-- What slots and the arguments of a predicate stand for, where the slots stand for these micro-ops and cores.
use Rattle.std.specs.Prelude.{ℕ, ◌<◌, List, [], ◌∷◌, map}
use Rattle.pc_common.specs.Case.{Touch}
use Rattle.pc_case.specs.{declared.op.Memop.{Memop}, Plain.{touch_at}}
use Rattle.pc_syntax.specs.declared.{term.Sort.{Sort, TheVariants.{Microop, Core as core_sort}}, bound.Bound.{Bound, TheVariants.{Op, Core}}}
use Rattle.pc_syntax.specs.{declared.closed_term.ClosedArg.{ClosedArg}, Arguments.{Argument, op_at, core_at, plain_name}, Truth.{Meaning}}
use Rattle.pc_syntax.specs.Closed.{meaning_of, closed_argument}

-- the values of the slots, as the truth of a closed formula takes them
abbrev pub meanings : List Bound → List Meaning
meanings slots = map meaning_of slots

-- a slot's micro-op or core, a core's number, or a plain name
abbrev pub value_of : List Bound → ClosedArg → Argument
value_of slots arg = closed_argument (meanings slots) arg

abbrev pub values_of : List Bound → List ClosedArg → List Argument
values_of slots args = map (value_of slots) args

abbrev pub sort_bound : Bound → Sort
sort_bound (Op i) = Microop
sort_bound (Core k) = core_sort

-- the sorts of the slots
abbrev pub scope_of : List Bound → List Sort
scope_of slots = map sort_bound slots

-- the micro-ops among the arguments are among the first n
abbrev pub AreOpsBelow : ℕ → List Argument → Type 0
AreOpsBelow n [] = Unit {0}
AreOpsBelow n (op_at i ∷ rest) = (i < n) × AreOpsBelow n rest
AreOpsBelow n (core_at k ∷ rest) = AreOpsBelow n rest
AreOpsBelow n (plain_name t ∷ rest) = AreOpsBelow n rest

-- what two accesses touch
abbrev pub touches_at : Memop × Memop → Touch × Touch
touches_at m = (touch_at m.0, touch_at m.1)
