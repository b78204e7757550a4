-- The static predicates: one row each, with its name and what it asks of the case alone.
use Rattle.std.specs.{Prelude.{ℕ, Bool, true, false, List, [], ◌∷◌, Option, Some, None, codes, ◌==◌, ◌&&◌, nat_lt}, List.{list_any, find}}
use Rattle.pc_common.specs.{Case.{Address, page, entry_of, Value, number, entry, Touch, Kind, read, write, fence, MicroOp, Case}, Names.{same_name}}
use Rattle.pc_common.specs.{Addresses.{same_page, same_address, same_value, stated_at, initial_at}, Dependencies.{depends_by}}
use Rattle.pc_syntax.specs.declared.pred.Pred.{Pred}
use Rattle.pc_syntax.specs.declared.pred.Pred.TheVariants.{True, False, IsAnyRead, IsAnyWrite, IsAnyFence, AccessType, OnCore, SameCore, SameThread, SameMicroop, SameInstruction, SameIntra, ProgramOrder, SameVirtualAddress, SamePhysicalAddress, SameVirtualTag, SamePhysicalTag, SameIndex, SameData, DataFromInitialStateAtPA, DataFromFinalStateAtPA, HasDependency, EntryOf, MapsTagOf, MarkedAccessed, MarkedDirty}
use Rattle.pc_syntax.specs.declared.pred.{TheConstants.Pred.{ALL}, Takes.{Takes, TheVariants.{Op, Core, Plain}}}
use Rattle.pc_syntax.specs.Arguments.{Argument, place_in, core_in, plain_in, op_in, touch_in, holds_of, holds_of_both}

-- what a predicate asks, by the kind of its arguments. What it asks of touches is false of a fence,
-- which touches nothing
pub data Rule : Type 0 where
  constant : Bool → Rule
  of_op : (MicroOp → Bool) → Rule
  of_touch : (Case → Touch → Bool) → Rule
  of_ops : (MicroOp → MicroOp → Bool) → Rule
  of_touches : (Touch → Touch → Bool) → Rule
  of_places : (ℕ → ℕ → Bool) → Rule
  of_core_op : (ℕ → MicroOp → Bool) → Rule
  of_plain_op : (List ℕ → MicroOp → Bool) → Rule
  of_plain_places : (Case → List ℕ → ℕ → ℕ → Bool) → Rule

-- a predicate's name, as models spell it, and what it asks
pub record Row : Type 0 where
  pub name : List ℕ
  pub rule : Rule

abbrev row : List ℕ → Rule → Row
row name rule = record { name = name; rule = rule }

abbrev pub is_read : Kind → Bool
is_read read = true
is_read write = false
is_read fence = false

abbrev pub is_write : Kind → Bool
is_write read = false
is_write write = true
is_write fence = false

abbrev pub is_fence : Kind → Bool
is_fence read = false
is_fence write = false
is_fence fence = true

-- same core and thread, and an earlier instruction
abbrev pub is_before : MicroOp → MicroOp → Bool
is_before a b = (a.core == b.core) && (a.thread == b.thread) && nat_lt a.g b.g

-- both are pages, of one tag
abbrev pub same_tag : Address → Address → Bool
same_tag (page p) (page q) = p.tag == q.tag
same_tag (page p) (entry_of t) = false
same_tag (entry_of s) (page q) = false
same_tag (entry_of s) (entry_of t) = false

-- the address is that of this virtual tag's entry
abbrev pub is_entry_of : Address → ℕ → Bool
is_entry_of (page p) t = false
is_entry_of (entry_of s) t = s == t

-- the value is an entry that maps to the tag of this page
abbrev pub maps_to : Value → Address → Bool
maps_to (number n) a = false
maps_to (entry e) (page p) = e.tag == p.tag
maps_to (entry e) (entry_of t) = false

-- the value is an entry with the mark set
abbrev pub is_accessed : Value → Bool
is_accessed (number n) = false
is_accessed (entry e) = e.accessed == 1

abbrev pub is_dirty : Value → Bool
is_dirty (number n) = false
is_dirty (entry e) = e.dirty == 1

-- a value is stated, and is this one
abbrev pub is_stated : Option Value → Value → Bool
is_stated None v = false
is_stated (Some w) v = same_value w v

abbrev pub row_of : Pred → Row
row_of True = row (codes "True") (constant true)
row_of False = row (codes "False") (constant false)
row_of IsAnyRead = row (codes "IsAnyRead") (of_op (λ a. is_read a.kind))
row_of IsAnyWrite = row (codes "IsAnyWrite") (of_op (λ a. is_write a.kind))
row_of IsAnyFence = row (codes "IsAnyFence") (of_op (λ a. is_fence a.kind))
row_of AccessType = row (codes "AccessType") (of_plain_op (λ t a. list_any (λ name. same_name name t) a.types))
row_of OnCore = row (codes "OnCore") (of_core_op (λ c a. a.core == c))
row_of SameCore = row (codes "SameCore") (of_ops (λ a b. a.core == b.core))
row_of SameThread = row (codes "SameThread") (of_ops (λ a b. a.thread == b.thread))
row_of SameMicroop = row (codes "SameMicroop") (of_places (λ i j. i == j))
row_of SameInstruction = row (codes "SameInstruction") (of_ops (λ a b. a.g == b.g))
row_of SameIntra = row (codes "SameIntra") (of_ops (λ a b. a.n == b.n))
row_of ProgramOrder = row (codes "ProgramOrder") (of_ops is_before)
row_of SameVirtualAddress = row (codes "SameVirtualAddress") (of_touches (λ s t. same_page s.va t.va))
row_of SamePhysicalAddress = row (codes "SamePhysicalAddress") (of_touches (λ s t. same_address s.pa t.pa))
row_of SameVirtualTag = row (codes "SameVirtualTag") (of_touches (λ s t. s.va.tag == t.va.tag))
row_of SamePhysicalTag = row (codes "SamePhysicalTag") (of_touches (λ s t. same_tag s.pa t.pa))
row_of SameIndex = row (codes "SameIndex") (of_touches (λ s t. s.va.index == t.va.index))
row_of SameData = row (codes "SameData") (of_touches (λ s t. same_value s.value t.value))
row_of DataFromInitialStateAtPA =
    row (codes "DataFromInitialStateAtPA") (of_touch (λ c t. same_value t.value (initial_at c t.pa)))
row_of DataFromFinalStateAtPA =
    row (codes "DataFromFinalStateAtPA") (of_touch (λ c t. is_stated (stated_at c.final t.pa) t.value))
row_of HasDependency = row (codes "HasDependency") (of_plain_places (λ c kind i j. depends_by c.dependencies kind i j))
row_of EntryOf = row (codes "EntryOf") (of_touches (λ s t. is_entry_of s.pa t.va.tag))
row_of MapsTagOf = row (codes "MapsTagOf") (of_touches (λ s t. maps_to s.value t.pa))
row_of MarkedAccessed = row (codes "MarkedAccessed") (of_touch (λ c t. is_accessed t.value))
row_of MarkedDirty = row (codes "MarkedDirty") (of_touch (λ c t. is_dirty t.value))

-- all predicates, as the code lists them: `Pred::name` ensures that none is left out
unfoldable pub all_preds : List Pred
all_preds = ALL

abbrev pub pred_name : Pred → List ℕ
pred_name p = (row_of p).name

-- the predicate of this name, if there is one
abbrev pub pred_with_name : List ℕ → Option Pred
pred_with_name name = find (λ p. same_name (pred_name p) name) all_preds

abbrev pub taken_by : Rule → List Takes
taken_by (constant b) = []
taken_by (of_op test) = Op ∷ []
taken_by (of_touch test) = Op ∷ []
taken_by (of_ops test) = Op ∷ Op ∷ []
taken_by (of_touches test) = Op ∷ Op ∷ []
taken_by (of_places test) = Op ∷ Op ∷ []
taken_by (of_core_op test) = Core ∷ Op ∷ []
taken_by (of_plain_op test) = Plain ∷ Op ∷ []
taken_by (of_plain_places test) = Plain ∷ Op ∷ Op ∷ []

-- what a predicate takes, in order
abbrev pub takes_of : Pred → List Takes
takes_of p = taken_by (row_of p).rule

abbrev pub rule_holds : Case → Rule → List Argument → Bool
rule_holds c (constant b) args = b
rule_holds c (of_op test) args = holds_of (op_in c args 0) test
rule_holds c (of_touch test) args = holds_of (touch_in c args 0) (test c)
rule_holds c (of_ops test) args = holds_of_both (op_in c args 0) (op_in c args 1) test
rule_holds c (of_touches test) args = holds_of_both (touch_in c args 0) (touch_in c args 1) test
rule_holds c (of_places test) args = holds_of_both (place_in args 0) (place_in args 1) test
rule_holds c (of_core_op test) args = holds_of_both (core_in args 0) (op_in c args 1) test
rule_holds c (of_plain_op test) args = holds_of_both (plain_in args 0) (op_in c args 1) test
rule_holds c (of_plain_places test) args =
    holds_of (plain_in args 0) (λ name. holds_of_both (place_in args 1) (place_in args 2) (test c name))

-- the truth of a predicate at the values of its arguments, of which there are as many as it takes
abbrev pub predicate_holds : Case → Pred → List Argument → Bool
predicate_holds c p args = rule_holds c (row_of p).rule args
