-- Items have one first fault at most, and an item after items without a fault has one at most.
use Rattle.std.proofs.Common.{◌≡◌, ◌≢◌, ℕ, ◌<◌, ◌≤◌, List, [], ◌∷◌, ◌++◌, Some, length, slice_get, refl, sym, ap, subst, ◌∙◌, ◌⊎◌, inl, inr, arith}
use Rattle.std.{proofs.lemmas.{Option.{slice_get-get_or}, List.Elements.{Contains-push_cases}}, specs.Prelude.{Contains}}
use Rattle.pc_common.specs.declared.{place.Place.{Place}, fault.FaultKind.{FaultKind}}
use Rattle.pc_common.specs.declared.fault.FaultKind.TheVariants.{SplitInstruction, DuplicateOp, AgainInitial, AgainFinal, AgainExpectation}
use Rattle.pc_common.specs.{declared.value.Value.{Value}, Case.{Expectation}}
use Rattle.litmus_reader.specs.Items.{value_of, initial_of, final_of, expectation_of, heads_in, initial_in, final_in, expectations_in}
use Rattle.litmus_reader.specs.Content.{Never, First, OverCore, OverMany, SplitFrom, DuplicateOf, SomeEarlier, Unknown, AgainStated, AgainExpected, OverMark, MarkFault, ActionFault, HeadFault, IsFaultOf, IsClean, IsContentFault}
use Rattle.litmus_reader.specs.declared.item.{ValueText.{ValueText, TheVariants.{Number, Entry}}, Action.{Action}}
use Rattle.litmus_reader.specs.declared.item.{Action.TheVariants.{Read as reads, Write as writes, Fence as fences}, Head.{Head}, End.{End}}
use Rattle.litmus_reader.specs.declared.item.{ValueLine.{ValueLine}, Item.{Item}}
use Rattle.litmus_reader.specs.declared.item.Item.TheVariants.{Microop as microop, Relationship as relationship, Initial as initial, Final as final, Permitted as permitted, Forbidden as forbidden}
use Rattle.litmus_reader.proofs.BuilderFacts.{never-first, never-others, added, same, same_heads, added_head, none_expected}
use Rattle.litmus_reader.proofs.CleanFacts.{each_clean, Apart, SameName, SameAddress, names, pages, judged_initial, judged_final, head_never}

-- earlier micro-ops of one instruction have one core and one thread
abbrev Agree : List Head → Type 0
Agree hs = (e f : Head) → Contains hs e → Contains hs f → e.g.value ≡ f.g.value → (e.core.value ≡ f.core.value) × (e.thread.value ≡ f.thread.value)

equal : {a b : ℕ} → (a ≢ b → ⊥) → a ≡ b
equal {a} {b} not_apart =
    let below : a < b → ⊥ = λ lt. not_apart (λ e. omega (arith, e)) in
    let above : b < a → ⊥ = λ lt. not_apart (λ e. omega (arith, e)) in
    omega arith

agrees : (heads : List Head) (h : Head) → Never (HeadFault heads h) → (e : Head) → Contains heads e → e.g.value ≡ h.g.value
    → (e.core.value ≡ h.core.value) × (e.thread.value ≡ h.thread.value)
agrees heads h never e c g =
    let later = First (SomeEarlier heads (SplitFrom h)) (SomeEarlier heads (DuplicateOf h)) in
    let others = never-others (OverMany heads h) later (never-others (OverCore h) (First (OverMany heads h) later) never) in
    let split = never-first (SomeEarlier heads (SplitFrom h)) (SomeEarlier heads (DuplicateOf h)) others in
    let core = equal (λ other. split (SplitInstruction e.core.value h.core.value) h.core.at (e, c, (g, inl (other, refl, refl)))) in
    let thread = equal (λ other. split (SplitInstruction e.thread.value h.thread.value) h.thread.at (e, c, (g, inr (core, other, refl, refl)))) in
    (core, thread)

agree-push : (heads : List Head) (h : Head) → Never (HeadFault heads h) → Agree heads → Agree (heads ++ h ∷ [])
agree-push heads h never all e f c d g =
    by (Contains-push_cases heads h e c) (Contains-push_cases heads h f d)
  where
    by : Contains heads e ⊎ (h ≡ e) → Contains heads f ⊎ (h ≡ f) → (e.core.value ≡ f.core.value) × (e.thread.value ≡ f.thread.value)
    by (inl x) (inl y) = all e f x y g
    by (inl x) (inr y) =
        let r = agrees heads h never e x (g ∙ sym (ap (λ (z : Head). z.g.value) y)) in
        (r.0 ∙ ap (λ (z : Head). z.core.value) y, r.1 ∙ ap (λ (z : Head). z.thread.value) y)
    by (inr x) (inl y) =
        let r = agrees heads h never f y (sym g ∙ sym (ap (λ (z : Head). z.g.value) x)) in
        (sym (r.0 ∙ ap (λ (z : Head). z.core.value) x), sym (r.1 ∙ ap (λ (z : Head). z.thread.value) x))
    by (inr x) (inr y) = (ap (λ (z : Head). z.core.value) (sym x ∙ y), ap (λ (z : Head). z.thread.value) (sym x ∙ y))

agree_step : (b : List Item) (i : Item) → IsClean b → Never (IsFaultOf b i) → Agree (heads_in b) → Agree (heads_in (b ++ i ∷ []))
agree_step b (microop m) clean never all = subst Agree (sym (added_head b m)) (agree-push (heads_in b) m.head (head_never b m never) all)
agree_step b (relationship r) clean never all = subst Agree (sym (same_heads b (relationship r) refl)) all
agree_step b (initial v) clean never all = subst Agree (sym (same_heads b (initial v) refl)) all
agree_step b (final v) clean never all = subst Agree (sym (same_heads b (final v) refl)) all
agree_step b (permitted at) clean never all = subst Agree (sym (same_heads b (permitted at) refl)) all
agree_step b (forbidden at) clean never all = subst Agree (sym (same_heads b (forbidden at) refl)) all

agree : (items : List Item) → IsClean items → Agree (heads_in items)
agree = each_clean (λ items. Agree (heads_in items)) (λ e f c d g. let k = c.1 in absurd (omega arith)) agree_step

-- at most one expectation
first_expected : (b : List Item) (i : Item) (e : Expectation × Place) → expectation_of i ≡ Some e → expectations_in b ≡ []
    → length (expectations_in (b ++ i ∷ [])) ≤ 1
first_expected b i e is none =
    omega (arith, ap length (added expectation_of b i e is ∙ ap (λ (es : List (Expectation × Place)). es ++ e ∷ []) none))

expected_step : (b : List Item) (i : Item) → IsClean b → Never (IsFaultOf b i) → length (expectations_in b) ≤ 1 → length (expectations_in (b ++ i ∷ [])) ≤ 1
expected_step b (microop m) clean never few = omega (arith, ap length (same expectation_of b (microop m) refl))
expected_step b (relationship r) clean never few = omega (arith, ap length (same expectation_of b (relationship r) refl))
expected_step b (initial v) clean never few = omega (arith, ap length (same expectation_of b (initial v) refl))
expected_step b (final v) clean never few = omega (arith, ap length (same expectation_of b (final v) refl))
expected_step b (permitted at) clean never few = first_expected b (permitted at) _ refl (none_expected (expectations_in b) at never)
expected_step b (forbidden at) clean never few = first_expected b (forbidden at) _ refl (none_expected (expectations_in b) at never)

one_expected : (items : List Item) → IsClean items → length (expectations_in items) ≤ 1
one_expected = each_clean (λ items. length (expectations_in items) ≤ 1) (omega arith) expected_step

got : {X : Type 0} (xs : List X) (x : X) (c : Contains xs x) → slice_get xs c.0 ≡ Some x
got xs x (k, below, at) = slice_get-get_or xs k x below ∙ ap Some at

-- of elements that are apart one alone has a relation
alone : {X : Type 0} (R : X → X → Type 0) (xs : List X) → Apart R xs → (a b : X) → Contains xs a → Contains xs b → R a b → a ≡ b
alone R xs apart a b c d r =
    let same = apart c.0 d.0 a b (got xs a c) (got xs b d) r in
    let here = got xs a c in let there = got xs b d in cc

-- a row gives one fault at most
abbrev IsOne : (FaultKind → Place → Type 0) → Type 0
IsOne Row = (j k : FaultKind) (p q : Place) → Row j p → Row k q → (j ≡ k) × (p ≡ q)

one-first : (Row Others : FaultKind → Place → Type 0) → IsOne Row → IsOne Others → IsOne (First Row Others)
one-first Row Others row others j k p q (inl a) (inl b) = row j k p q a b
one-first Row Others row others j k p q (inl a) (inr (none, b)) = absurd (none j p a)
one-first Row Others row others j k p q (inr (none, a)) (inl b) = absurd (none k q b)
one-first Row Others row others j k p q (inr (none, a)) (inr (_, b)) = others j k p q a b

one_split : (heads : List Head) (h : Head) → Agree heads → IsOne (SomeEarlier heads (SplitFrom h))
one_split heads h all j k p q (e, c, (g, inl a)) (f, d, (i, inl b)) =
    let (core, thread) = all e f c d (g ∙ sym i) in
    (a.1 ∙ ap (λ (n : ℕ). SplitInstruction n h.core.value) core ∙ sym b.1, a.2 ∙ sym b.2)
one_split heads h all j k p q (e, c, (g, inl a)) (f, d, (i, inr b)) = absurd (a.0 ((all e f c d (g ∙ sym i)).0 ∙ b.0))
one_split heads h all j k p q (e, c, (g, inr a)) (f, d, (i, inl b)) = absurd (b.0 (sym (all e f c d (g ∙ sym i)).0 ∙ a.0))
one_split heads h all j k p q (e, c, (g, inr a)) (f, d, (i, inr b)) =
    let (core, thread) = all e f c d (g ∙ sym i) in
    (a.2 ∙ ap (λ (n : ℕ). SplitInstruction n h.thread.value) thread ∙ sym b.2, a.3 ∙ sym b.3)

one_duplicate : (heads : List Head) (h : Head) → Apart SameName heads → IsOne (SomeEarlier heads (DuplicateOf h))
one_duplicate heads h apart j k p q (e, c, a) (f, d, b) =
    let twin = alone SameName heads apart e f c d (a.0 ∙ sym b.0, a.1 ∙ sym b.1) in
    (a.2 ∙ ap (λ (z : Head). DuplicateOp z.g.at h.g.at) twin ∙ sym b.2, a.3 ∙ sym b.3)

one_unknown : (heads : List Head) (x : End) → IsOne (Unknown heads x)
one_unknown heads x j k p q a b = (a.1 ∙ sym b.1, a.2 ∙ sym b.2)

one_stated : (word : Value → Value → FaultKind) (lines : List ValueLine) (v : ValueLine) → Apart SameAddress lines → IsOne (AgainStated word lines v)
one_stated word lines v apart j k p q (e, c, same_a, is_a, at_a) (f, d, same_b, is_b, at_b) =
    let twin = alone SameAddress lines apart e f c d (same_a ∙ sym same_b) in
    (is_a ∙ ap (λ (z : ValueLine). word (value_of z.value) (value_of v.value)) twin ∙ sym is_b, at_a ∙ sym at_b)

one_expectation : (es : List (Expectation × Place)) (at : Place) → length es ≤ 1 → IsOne (AgainExpected es at)
one_expectation es at few j k p q (e, c, is_a, at_a) (f, d, is_b, at_b) =
    let first : c.0 ≡ d.0 = let a = c.1 in let b = d.1 in omega arith in
    let twin : e ≡ f = let a = got es e c in let b = got es f d in cc in
    (is_a ∙ ap (λ (z : Expectation × Place). AgainExpectation z.1 at) twin ∙ sym is_b, at_a ∙ sym at_b)

one_head : (heads : List Head) (h : Head) → Agree heads → Apart SameName heads → IsOne (HeadFault heads h)
one_head heads h all apart =
    let splits = SomeEarlier heads (SplitFrom h) in
    let duplicates = SomeEarlier heads (DuplicateOf h) in
    one-first (OverCore h) (First (OverMany heads h) (First splits duplicates)) (λ j k p q a b. (a.1 ∙ sym b.1, a.2 ∙ sym b.2))
    (one-first (OverMany heads h) (First splits duplicates) (λ j k p q a b. (a.1 ∙ sym b.1, a.2 ∙ sym b.2))
    (one-first splits duplicates (one_split heads h all) (one_duplicate heads h apart)))

one_mark : (v : ValueText) → IsOne (MarkFault v)
one_mark (Number n) = λ j k p q a b. absurd a
one_mark (Entry tag accessed dirty) =
    one-first (OverMark accessed) (OverMark dirty) (λ j k p q a b. (a.1 ∙ sym b.1, a.2 ∙ sym b.2)) (λ j k p q a b. (a.1 ∙ sym b.1, a.2 ∙ sym b.2))

one_action : (a : Action) → IsOne (ActionFault a)
one_action (reads t) = one_mark t.value
one_action (writes t) = one_mark t.value
one_action fences = λ j k p q a b. absurd a

-- an item after items without a fault has one fault at most
pub one_fault_of : (before : List Item) (i : Item) → IsClean before → IsOne (IsFaultOf before i)
one_fault_of before (microop m) clean =
    one-first (HeadFault (heads_in before) m.head) (ActionFault m.action)
    (one_head (heads_in before) m.head (agree before clean) (names before clean)) (one_action m.action)
one_fault_of before (relationship r) clean =
    one-first (Unknown (heads_in before) r.source) (Unknown (heads_in before) r.target) (one_unknown (heads_in before) r.source)
    (one_unknown (heads_in before) r.target)
one_fault_of before (initial v) clean =
    one-first (AgainStated AgainInitial (initial_in before) v) (MarkFault v.value)
    (one_stated AgainInitial (initial_in before) v (pages initial_of AgainInitial judged_initial before clean)) (one_mark v.value)
one_fault_of before (final v) clean =
    one-first (AgainStated AgainFinal (final_in before) v) (MarkFault v.value)
    (one_stated AgainFinal (final_in before) v (pages final_of AgainFinal judged_final before clean)) (one_mark v.value)
one_fault_of before (permitted at) clean = one_expectation (expectations_in before) at (one_expected before clean)
one_fault_of before (forbidden at) clean = one_expectation (expectations_in before) at (one_expected before clean)

-- two places of one list
parted : {X : Type 0} (xs ys : List X) (x y : X) (us vs : List X) → xs ++ x ∷ us ≡ ys ++ y ∷ vs
    → ((xs ≡ ys) × (x ≡ y)) ⊎ (((more : List X) × (ys ≡ xs ++ x ∷ more)) ⊎ ((more : List X) × (xs ≡ ys ++ y ∷ more)))
parted [] [] x y us vs e = inl (refl, cc)
parted [] (b ∷ ys) x y us vs e = inr (inl (ys, cc))
parted (a ∷ xs) [] x y us vs e = inr (inr (xs, cc))
parted (a ∷ xs) (b ∷ ys) x y us vs e =
    let first : a ≡ b = cc in
    let rest : xs ++ x ∷ us ≡ ys ++ y ∷ vs = cc in
    elim (parted xs ys x y us vs rest) [
      | inl h ↦ inl ((λ i. first i ∷ h.0 i), h.1)
      | inr (inl h) ↦ inr (inl (h.0, (λ i. sym first i ∷ h.1 i)))
      | inr (inr h) ↦ inr (inr (h.0, (λ i. first i ∷ h.1 i)))
    ]

-- items have one first fault at most
pub one_content_fault : (items : List Item) → IsOne (IsContentFault items)
one_content_fault items j k p q f g = by (parted f.before g.before f.item g.item f.after g.after (sym f.are ∙ g.are))
  where
    by : ((f.before ≡ g.before) × (f.item ≡ g.item))
        ⊎ (((more : List Item) × (g.before ≡ f.before ++ f.item ∷ more)) ⊎ ((more : List Item) × (f.before ≡ g.before ++ g.item ∷ more)))
        → (j ≡ k) × (p ≡ q)
    by (inl (fronts, items_are)) =
        one_fault_of f.before f.item f.clean j k p q f.here
        (subst (λ (i : Item). IsFaultOf f.before i k q) (sym items_are) (subst (λ (b : List Item). IsFaultOf b g.item k q) (sym fronts) g.here))
    by (inr (inl (more, e))) = absurd (g.clean f.before f.item more e j p f.here)
    by (inr (inr (more, e))) = absurd (f.clean g.before g.item more e k q g.here)
