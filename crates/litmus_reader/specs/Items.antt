-- What the items of a test say, and the case that they make.
use Rattle.std.specs.{Prelude.{ℕ, Bool, ◌==◌, ◌&&◌, List, [], ◌∷◌, Option, Some, None, map}, List.{filter_map, position_or_len}}
use Rattle.pc_common.specs.declared.{place.Place.{Place}, value.Value.{Value, TheVariants.{Number, Entry}}}
use Rattle.pc_common.specs.Case.{Address, Value as PlainValue, Touch as PlainTouch, Kind, read, write, fence, MicroOp, Dependency, Expectation, permitted, forbidden, unstated, Case}
use Rattle.pc_case.specs.{declared.op.Memop.{Memop}, Plain.{address_at, plain_value, touch_at}}
use Rattle.litmus_reader.specs.declared.item.{ValueText.{ValueText, TheVariants.{Number as number_text, Entry as entry_text}}, Touch.{Touch}, Head.{Head}}
use Rattle.litmus_reader.specs.declared.item.{Action.{Action, TheVariants.{Read as reads, Write as writes, Fence as fences}}, Microop.{Microop}, End.{End}}
use Rattle.litmus_reader.specs.declared.item.{Relationship.{Relationship}, ValueLine.{ValueLine}, Item.{Item}}
use Rattle.litmus_reader.specs.declared.item.Item.TheVariants.{Microop as microop_line, Relationship as relationship_line, Initial as initial_line, Final as final_line, Permitted as permitted_line, Forbidden as forbidden_line}

abbrev pub microop_of : Item → Option Microop
microop_of (microop_line m) = Some m
microop_of _ = None

abbrev pub relationship_of : Item → Option Relationship
relationship_of (relationship_line r) = Some r
relationship_of _ = None

abbrev pub initial_of : Item → Option ValueLine
initial_of (initial_line v) = Some v
initial_of _ = None

abbrev pub final_of : Item → Option ValueLine
final_of (final_line v) = Some v
final_of _ = None

abbrev pub expectation_of : Item → Option (Expectation × Place)
expectation_of (permitted_line at) = Some (permitted, at)
expectation_of (forbidden_line at) = Some (forbidden, at)
expectation_of _ = None

-- in text order
abbrev pub microops_in : List Item → List Microop
microops_in items = filter_map microop_of items

abbrev pub heads_in : List Item → List Head
heads_in items = map (λ (m : Microop). m.head) (microops_in items)

abbrev pub relationships_in : List Item → List Relationship
relationships_in items = filter_map relationship_of items

abbrev pub initial_in : List Item → List ValueLine
initial_in items = filter_map initial_of items

abbrev pub final_in : List Item → List ValueLine
final_in items = filter_map final_of items

abbrev pub expectations_in : List Item → List (Expectation × Place)
expectations_in items = filter_map expectation_of items

-- the value without the places of its marks
abbrev pub value_of : ValueText → Value
value_of (number_text n) = Number n
value_of (entry_text tag accessed dirty) = Entry tag accessed.value dirty.value

abbrev pub memop_of : Touch → Memop
memop_of t = record { va = t.va; pa = t.pa; value = value_of t.value }

abbrev pub kind_of_action : Action → Kind
kind_of_action (reads t) = read
kind_of_action (writes t) = write
kind_of_action fences = fence

abbrev pub touch_of_action : Action → Option PlainTouch
touch_of_action (reads t) = Some (touch_at (memop_of t))
touch_of_action (writes t) = Some (touch_at (memop_of t))
touch_of_action fences = None

abbrev pub op_of : Microop → MicroOp
op_of m = record {
  g = m.head.g.value;
  n = m.head.n;
  core = m.head.core.value;
  thread = m.head.thread.value;
  types = m.types;
  kind = kind_of_action m.action;
  touch = touch_of_action m.action;
}

-- whether the micro-op is the one that a relationship names
abbrev pub is_named : End → Head → Bool
is_named e h = (h.g.value == e.g.value) && (h.n == e.n)

-- the place of the micro-op that a relationship names: the first of this name
abbrev pub place_in : List Head → End → ℕ
place_in heads e = position_or_len (is_named e) heads

abbrev pub dependency_of : List Head → Relationship → Dependency
dependency_of heads r = record { kind = r.kind; source = place_in heads r.source; target = place_in heads r.target }

abbrev pub stated_by : ValueLine → Address × PlainValue
stated_by v = (address_at v.pa, plain_value (value_of v.value))

abbrev pub expectation_among : List (Expectation × Place) → Expectation
expectation_among [] = unstated
expectation_among (e ∷ es) = e.0

-- the case that the items say
abbrev pub case_of : List Item → Case
case_of items = record {
  ops = map op_of (microops_in items);
  dependencies = map (dependency_of (heads_in items)) (relationships_in items);
  initial = map stated_by (initial_in items);
  final = map stated_by (final_in items);
  expectation = expectation_among (expectations_in items);
}
