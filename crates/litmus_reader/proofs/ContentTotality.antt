-- Each list of items is clean or has a content fault.
use Rattle.std.proofs.Common.{◌≡◌, ◌≢◌, zero, ◌<◌, ◌≤◌, ◌⊎◌, ⊎_elim, inl, inr, List, [], ◌∷◌, ◌++◌, length, refl, sym, ap, subst, ◌∙◌, arith, append_assoc}
use Rattle.std.{proofs.lemmas.List.{append-nil}, specs.Prelude.{Contains}}
use Rattle.pc_common.specs.declared.{place.Place.{Place}, fault.FaultKind.{FaultKind}}
use Rattle.pc_common.specs.declared.fault.FaultKind.TheVariants.{CoreNumber, TooManyOps, SplitInstruction, DuplicateOp, OpUnknown, AgainInitial, AgainFinal, AgainExpectation, MarkValue}
use Rattle.pc_common.specs.{declared.{value.Value.{Value}, limits.TheConstants.{MAX_CORE, MAX_OPS}}, Case.{Expectation}}
use Rattle.litmus_reader.specs.Items.{value_of, heads_in, initial_in, final_in, expectations_in}
use Rattle.litmus_reader.specs.Content.{Never, First, OverCore, OverMany, SplitFrom, DuplicateOf, SomeEarlier, Unknown, AgainStated, AgainExpected, OverMark, MarkFault, ActionFault, HeadFault, IsFaultOf, IsClean, IsContentFault}
use Rattle.litmus_reader.specs.declared.item.{Numeral.{Numeral}, ValueText.{ValueText, TheVariants.{Number, Entry}}, Action.{Action}}
use Rattle.litmus_reader.specs.declared.item.{Action.TheVariants.{Read as reads, Write as writes, Fence as fences}, Head.{Head}, End.{End}}
use Rattle.litmus_reader.specs.declared.item.{ValueLine.{ValueLine}, Item.{Item}}
use Rattle.litmus_reader.specs.declared.item.Item.TheVariants.{Microop as microop, Relationship as relationship, Initial as initial, Final as final, Permitted as permitted, Forbidden as forbidden}
use Rattle.litmus_reader.proofs.{Decisions.{Decided, both, less, at_most, same_number, same_address}, ValueFacts.{contains-cons, contains-cases, contains-none}}
use Rattle.litmus_reader.proofs.CleanFacts.{clean-none, clean-push}

-- a row gives no fault, or it gives one
abbrev IsJudged : (FaultKind → Place → Type 0) → Type 0
IsJudged Row = Never Row ⊎ ((kind : FaultKind) × (at : Place) × Row kind at)

-- rows that give the same faults
alike : (Row Same : FaultKind → Place → Type 0) → ((kind : FaultKind) (at : Place) → Row kind at → Same kind at)
    → ((kind : FaultKind) (at : Place) → Same kind at → Row kind at) → IsJudged Row → IsJudged Same
alike Row Same to from (inl never) = inl (λ kind at h. never kind at (from kind at h))
alike Row Same to from (inr (kind, at, row)) = inr (kind, at, to kind at row)

first : (Row Others : FaultKind → Place → Type 0) → IsJudged Row → IsJudged Others → IsJudged (First Row Others)
first Row Others (inr (kind, at, row)) others = inr (kind, at, inl row)
first Row Others (inl never) (inr (kind, at, row)) = inr (kind, at, inr (never, row))
first Row Others (inl never) (inl none) = inl (λ kind at h. ⊎_elim (λ row. never kind at row) (λ pair. none kind at pair.1) h)

-- a row of one test, and of one fault where it applies
single : (P : Type 0) (kind : FaultKind) (at : Place) → Decided P → IsJudged (λ k p. P × (k ≡ kind) × (p ≡ at))
single P kind at (inl holds) = inr (kind, at, (holds, refl, refl))
single P kind at (inr never) = inl (λ k p h. never h.0)

-- an element gives a fault, or none does
some_in : {X : Type 0} (Row : X → FaultKind → Place → Type 0) → ((x : X) → IsJudged (Row x)) → (xs : List X)
    → IsJudged (λ kind at. (x : X) × Contains xs x × Row x kind at)
some_in Row judged [] = inl (λ kind at h. contains-none h.0 h.1)
some_in {X} Row judged (y ∷ ys) =
    ⊎_elim
    (λ never. ⊎_elim
    (λ none. inl (λ kind at (x, c, row). ⊎_elim
    (λ e. never kind at (subst (λ (z : X). Row z kind at) (sym e) row))
    (λ d. none kind at (x, d, row))
    (contains-cases y ys x c)))
    (λ (kind, at, (x, c, row)). inr (kind, at, (x, contains-cons y ys x c, row)))
    (some_in Row judged ys))
    (λ (kind, at, row). inr (kind, at, (y, (zero, omega arith, refl), row)))
    (judged y)

split : (h e : Head) → IsJudged (SplitFrom h e)
split h e = by (same_number e.g.value h.g.value) (same_number e.core.value h.core.value) (same_number e.thread.value h.thread.value)
  where
    by : Decided (e.g.value ≡ h.g.value) → Decided (e.core.value ≡ h.core.value) → Decided (e.thread.value ≡ h.thread.value) → IsJudged (SplitFrom h e)
    by (inr other) core thread = inl (λ kind at r. other r.0)
    by (inl g) (inr other) thread = inr (SplitInstruction e.core.value h.core.value, h.core.at, (g, inl (other, refl, refl)))
    by (inl g) (inl core) (inr other) = inr (SplitInstruction e.thread.value h.thread.value, h.thread.at, (g, inr (core, other, refl, refl)))
    by (inl g) (inl core) (inl thread) = inl (λ kind at r. ⊎_elim (λ a. a.0 core) (λ b. b.1 thread) r.1)

duplicate : (h e : Head) → IsJudged (DuplicateOf h e)
duplicate h e = by (same_number e.g.value h.g.value) (same_number e.n h.n)
  where
    by : Decided (e.g.value ≡ h.g.value) → Decided (e.n ≡ h.n) → IsJudged (DuplicateOf h e)
    by (inr other) n = inl (λ kind at r. other r.0)
    by (inl g) (inr other) = inl (λ kind at r. other r.1)
    by (inl g) (inl n) = inr (DuplicateOp e.g.at h.g.at, h.g.at, (g, n, refl, refl))

op : (before : List Head) (h : Head) → IsJudged (HeadFault before h)
op before h =
    let splits = SomeEarlier before (SplitFrom h) in
    let duplicates = SomeEarlier before (DuplicateOf h) in
    first (OverCore h) (First (OverMany before h) (First splits duplicates))
    (single (MAX_CORE < h.core.value) (CoreNumber h.core.value) h.core.at (less MAX_CORE h.core.value))
    (first (OverMany before h) (First splits duplicates)
    (single (MAX_OPS ≤ length before) (TooManyOps MAX_OPS) h.at (at_most MAX_OPS (length before)))
    (first splits duplicates (some_in (SplitFrom h) (split h) before) (some_in (DuplicateOf h) (duplicate h) before)))

-- a micro-op is the end of a relationship, or none is
named : (before : List Head) (x : End) → Decided ((e : Head) → Contains before e → e.g.value ≡ x.g.value → e.n ≢ x.n)
named [] x = inl (λ e c g n. contains-none e c)
named (h ∷ before) x = by (both (same_number h.g.value x.g.value) (same_number h.n x.n)) (named before x)
  where
    by : Decided ((h.g.value ≡ x.g.value) × (h.n ≡ x.n)) → Decided ((e : Head) → Contains before e → e.g.value ≡ x.g.value → e.n ≢ x.n)
        → Decided ((e : Head) → Contains (h ∷ before) e → e.g.value ≡ x.g.value → e.n ≢ x.n)
    by (inl (g, n)) rest = inr (λ none. none h (zero, omega arith, refl) g n)
    by (inr other) (inr some) = inr (λ none. some (λ e c g n. none e (contains-cons h before e c) g n))
    by (inr other) (inl none) = inl (λ e c g n.
        ⊎_elim
        (λ is. other (ap (λ (z : Head). z.g.value) is ∙ g, ap (λ (z : Head). z.n) is ∙ n))
        (λ d. none e d g n)
        (contains-cases h before e c))

unknown : (before : List Head) (x : End) → IsJudged (Unknown before x)
unknown before x =
    single ((e : Head) → Contains before e → e.g.value ≡ x.g.value → e.n ≢ x.n) (OpUnknown x.g.value x.n) x.g.at (named before x)

stated : (word : Value → Value → FaultKind) (before : List ValueLine) (v : ValueLine) → IsJudged (AgainStated word before v)
stated word before v =
    let Row : ValueLine → FaultKind → Place → Type 0 = λ e kind at. (e.pa ≡ v.pa) × (kind ≡ word (value_of e.value) (value_of v.value)) × (at ≡ v.at) in
    alike (λ kind at. (e : ValueLine) × Contains before e × Row e kind at) (AgainStated word before v)
    (λ kind at (e, c, (same, is, here)). (e, c, same, is, here)) (λ kind at (e, c, same, is, here). (e, c, (same, is, here)))
    (some_in Row (λ e. single (e.pa ≡ v.pa) (word (value_of e.value) (value_of v.value)) v.at (same_address e.pa v.pa)) before)

expected : (before : List (Expectation × Place)) (here : Place) → IsJudged (AgainExpected before here)
expected before here =
    let Row : Expectation × Place → FaultKind → Place → Type 0 = λ e kind at. (kind ≡ AgainExpectation e.1 here) × (at ≡ here) in
    alike (λ kind at. (e : Expectation × Place) × Contains before e × Row e kind at) (AgainExpected before here)
    (λ kind at (e, c, (is, there)). (e, c, is, there)) (λ kind at (e, c, is, there). (e, c, (is, there)))
    (some_in Row (λ e. inr (AgainExpectation e.1 here, here, (refl, refl))) before)

mark : (m : Numeral) → IsJudged (OverMark m)
mark m = single (1 < m.value) (MarkValue m.value) m.at (less 1 m.value)

marks : (v : ValueText) → IsJudged (MarkFault v)
marks (Number n) = inl (λ kind at h. h)
marks (Entry tag accessed dirty) = first (OverMark accessed) (OverMark dirty) (mark accessed) (mark dirty)

action_marks : (a : Action) → IsJudged (ActionFault a)
action_marks (reads t) = marks t.value
action_marks (writes t) = marks t.value
action_marks fences = inl (λ kind at h. h)

fault_or_none : (before : List Item) (i : Item) → IsJudged (IsFaultOf before i)
fault_or_none before (microop m) =
    first (HeadFault (heads_in before) m.head) (ActionFault m.action) (op (heads_in before) m.head) (action_marks m.action)
fault_or_none before (relationship r) =
    first (Unknown (heads_in before) r.source) (Unknown (heads_in before) r.target) (unknown (heads_in before) r.source) (unknown (heads_in before) r.target)
fault_or_none before (initial v) =
    first (AgainStated AgainInitial (initial_in before) v) (MarkFault v.value) (stated AgainInitial (initial_in before) v) (marks v.value)
fault_or_none before (final v) =
    first (AgainStated AgainFinal (final_in before) v) (MarkFault v.value) (stated AgainFinal (final_in before) v) (marks v.value)
fault_or_none before (permitted at) = expected (expectations_in before) at
fault_or_none before (forbidden at) = expected (expectations_in before) at

abbrev IsSettled : List Item → Type 0
IsSettled items = IsClean items ⊎ ((kind : FaultKind) × (at : Place) × IsContentFault items kind at)

-- items without a fault go on to the end, or to a fault
settled_from : (before rest : List Item) → IsClean before → IsSettled (before ++ rest)
settled_from before [] clean = inl (subst IsClean (sym (append-nil before)) clean)
settled_from before (i ∷ rest) clean =
    ⊎_elim
    (λ never. subst IsSettled (append_assoc before (i ∷ []) rest) (settled_from (before ++ i ∷ []) rest (clean-push before i clean never)))
    (λ (kind, at, here). inr (kind, at, record { before = before; item = i; after = rest; are = refl; clean = clean; here = here }))
    (fault_or_none before i)

pub clean_or_fault : (items : List Item) → IsClean items ⊎ ((kind : FaultKind) × (at : Place) × IsContentFault items kind at)
clean_or_fault items = settled_from [] items clean-none
