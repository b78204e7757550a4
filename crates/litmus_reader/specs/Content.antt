-- The content faults of a test. An item is judged by the items before it, row by row of its table, and the first row
-- that applies names the fault; the first item with a fault names that of the test.
use Rattle.std.specs.Prelude.{◌≡◌, ◌≢◌, ◌<◌, ◌≤◌, List, ◌∷◌, ◌++◌, length, ◌⊎◌, Contains}
use Rattle.pc_common.specs.declared.{place.Place.{Place}, fault.FaultKind.{FaultKind}}
use Rattle.pc_common.specs.declared.fault.FaultKind.TheVariants.{CoreNumber, TooManyOps, SplitInstruction, DuplicateOp, OpUnknown, AgainInitial, AgainFinal, AgainExpectation, MarkValue}
use Rattle.pc_common.specs.{declared.{value.Value.{Value}, limits.TheConstants.{MAX_CORE, MAX_OPS}}, Case.{Expectation}}
use Rattle.litmus_reader.specs.{Items.{value_of, heads_in, initial_in, final_in, expectations_in}, declared.item.{Numeral.{Numeral}, ValueText.{ValueText}}}
use Rattle.litmus_reader.specs.declared.item.{ValueText.TheVariants.{Number, Entry}, Action.{Action}}
use Rattle.litmus_reader.specs.declared.item.{Action.TheVariants.{Read as reads, Write as writes, Fence as fences}, Head.{Head}, End.{End}}
use Rattle.litmus_reader.specs.declared.item.{ValueLine.{ValueLine}, Item.{Item}}
use Rattle.litmus_reader.specs.declared.item.Item.TheVariants.{Microop as microop, Relationship as relationship, Initial as initial, Final as final, Permitted as permitted, Forbidden as forbidden}

-- a row gives no fault
abbrev pub Never : (FaultKind → Place → Type 0) → Type 0
Never Row = (kind : FaultKind) (at : Place) → ¬ Row kind at

-- the fault of the first row, or of the others where it gives none
abbrev pub First : (FaultKind → Place → Type 0) → (FaultKind → Place → Type 0) → FaultKind → Place → Type 0
First Row Others kind at = Row kind at ⊎ (Never Row × Others kind at)

-- the core is over the greatest one: at the core
abbrev pub OverCore : Head → FaultKind → Place → Type 0
OverCore h kind at = (MAX_CORE < h.core.value) × (kind ≡ CoreNumber h.core.value) × (at ≡ h.core.at)

-- as many micro-ops as a test may have stand before: at `Microop`
abbrev pub OverMany : List Head → Head → FaultKind → Place → Type 0
OverMany before h kind at = (MAX_OPS ≤ length before) × (kind ≡ TooManyOps MAX_OPS) × (at ≡ h.at)

-- the earlier micro-op has this g and another core, or else another thread: at what differs
abbrev pub SplitFrom : Head → Head → FaultKind → Place → Type 0
SplitFrom h e kind at =
    (e.g.value ≡ h.g.value) ×
    (((e.core.value ≢ h.core.value) × (kind ≡ SplitInstruction e.core.value h.core.value) × (at ≡ h.core.at))
    ⊎ ((e.core.value ≡ h.core.value) × (e.thread.value ≢ h.thread.value)
    × (kind ≡ SplitInstruction e.thread.value h.thread.value) × (at ≡ h.thread.at)))

-- the earlier micro-op has this g and this n: at g
abbrev pub DuplicateOf : Head → Head → FaultKind → Place → Type 0
DuplicateOf h e kind at = (e.g.value ≡ h.g.value) × (e.n ≡ h.n) × (kind ≡ DuplicateOp e.g.at h.g.at) × (at ≡ h.g.at)

-- an earlier micro-op gives the fault
abbrev pub SomeEarlier : List Head → (Head → FaultKind → Place → Type 0) → FaultKind → Place → Type 0
SomeEarlier before Row kind at = (e : Head) × Contains before e × Row e kind at

-- no earlier micro-op is the end: at its g
abbrev pub Unknown : List Head → End → FaultKind → Place → Type 0
Unknown before x kind at =
    ((e : Head) → Contains before e → e.g.value ≡ x.g.value → e.n ≢ x.n)
    × (kind ≡ OpUnknown x.g.value x.n) × (at ≡ x.g.at)

-- an earlier line of this kind has this address: at the line's word
abbrev pub AgainStated : (Value → Value → FaultKind) → List ValueLine → ValueLine → FaultKind → Place → Type 0
AgainStated word before v kind at =
    (e : ValueLine) × Contains before e × (e.pa ≡ v.pa)
    × (kind ≡ word (value_of e.value) (value_of v.value)) × (at ≡ v.at)

-- an earlier line states an expectation: at the word
abbrev pub AgainExpected : List (Expectation × Place) → Place → FaultKind → Place → Type 0
AgainExpected before here kind at =
    (e : Expectation × Place) × Contains before e × (kind ≡ AgainExpectation e.1 here) × (at ≡ here)

-- the mark is over 1: at the mark
abbrev pub OverMark : Numeral → FaultKind → Place → Type 0
OverMark mark kind at = (1 < mark.value) × (kind ≡ MarkValue mark.value) × (at ≡ mark.at)

-- a mark of the value is: the accessed one before the dirty one
abbrev pub MarkFault : ValueText → FaultKind → Place → Type 0
MarkFault (Number n) kind at = ⊥
MarkFault (Entry tag accessed dirty) kind at = First (OverMark accessed) (OverMark dirty) kind at

abbrev pub ActionFault : Action → FaultKind → Place → Type 0
ActionFault (reads t) kind at = MarkFault t.value kind at
ActionFault (writes t) kind at = MarkFault t.value kind at
ActionFault fences kind at = ⊥

-- a second value of the address, or else a mark
abbrev pub ValueFault : (Value → Value → FaultKind) → List ValueLine → ValueLine → FaultKind → Place → Type 0
ValueFault word before v = First (AgainStated word before v) (MarkFault v.value)

abbrev pub HeadFault : List Head → Head → FaultKind → Place → Type 0
HeadFault before h =
    First (OverCore h)
    (First (OverMany before h) (First (SomeEarlier before (SplitFrom h)) (SomeEarlier before (DuplicateOf h))))

-- the fault of an item after these
abbrev pub IsFaultOf : List Item → Item → FaultKind → Place → Type 0
IsFaultOf before (microop m) = First (HeadFault (heads_in before) m.head) (ActionFault m.action)
IsFaultOf before (relationship r) = First (Unknown (heads_in before) r.source) (Unknown (heads_in before) r.target)
IsFaultOf before (initial v) = ValueFault AgainInitial (initial_in before) v
IsFaultOf before (final v) = ValueFault AgainFinal (final_in before) v
IsFaultOf before (permitted at) = AgainExpected (expectations_in before) at
IsFaultOf before (forbidden at) = AgainExpected (expectations_in before) at

-- no item has a fault
abbrev pub IsClean : List Item → Type 0
IsClean items =
    (before : List Item) (item : Item) (after : List Item) → items ≡ before ++ item ∷ after
    → Never (IsFaultOf before item)

-- the fault of the first item that has one
pub record IsContentFault (items : List Item) (kind : FaultKind) (at : Place) : Type 0 where
  pub before : List Item
  pub item : Item
  pub after : List Item
  pub are : items ≡ before ++ item ∷ after
  pub clean : IsClean before
  pub here : IsFaultOf before item kind at
