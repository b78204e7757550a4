-- What a builder holds of the lines, line by line.
use Rattle.std.proofs.Common.{◌≡◌, zero, ◌<◌, ◌≤◌, Bool, true, false, List, [], ◌∷◌, ◌++◌, Option, Some, None, Result, Ok, Err, OnOk, length, map, refl, sym, ap, ◌∙◌, arith, append_assoc, inl, inr}
use Rattle.std.{proofs.lemmas.List.{map-append, append-nil, Elements.{filter_map-append}, Sums.{prefix_len-le-length}}, specs.List.{filter_map, cons_option}}
use Rattle.pc_common.specs.{declared.{place.Place.{Place}, fault.FaultKind.{FaultKind, TheVariants.{OpUnknown}}}, Case.{Expectation, MicroOp, Dependency}}
use Rattle.pc_case.specs.{Plain.{micro_op, dependency}, declared.stated.Stated.{Stated}}
use Rattle.litmus_reader.specs.Items.{microop_of, relationship_of, initial_of, final_of, expectation_of, microops_in, heads_in, relationships_in, initial_in, final_in, expectations_in, op_of, is_named, place_in, dependency_of}
use Rattle.litmus_reader.specs.Content.{Never, First, Unknown, AgainExpected}
use Rattle.litmus_reader.specs.{Builder.{stated_of, stated_expectations, HasLines, AddsMicroop, AddsRelationship}, declared.item.{Head.{Head}, End.{End}}}
use Rattle.litmus_reader.specs.declared.item.{Microop.{Microop}, Relationship.{Relationship}, ValueLine.{ValueLine}, Item.{Item}}
use Rattle.litmus_reader.specs.declared.item.Item.TheVariants.{Microop as microop, Relationship as relationship, Initial as initial, Final as final}
use Rattle.litmus_reader.{specs.declared.builder.{CaseBuilder.{CaseBuilder}, StatedExpectation.{StatedExpectation}}, proofs.RowFacts.{place_in-none}}

pub place_in_within : (heads : List Head) (x : End) → place_in heads x ≤ length heads
place_in_within heads x = prefix_len-le-length _ heads

pub on_ok : {T E : Type 0} {P Q : Type 0} (r : Result T E) → (P → Q) → OnOk r P → OnOk r Q
on_ok (Ok v) f p = f p
on_ok (Err e) f p = p

-- neither of two rows gives a fault
pub never-first : (Row Others : FaultKind → Place → Type 0) → Never (First Row Others) → Never Row
never-first Row Others never kind at row = never kind at (inl row)

pub never-others : (Row Others : FaultKind → Place → Type 0) → Never (First Row Others) → Never Others
never-others Row Others never kind at row = never kind at (inr (never-first Row Others never, row))

-- what one more item adds to the lists
pub added : {X : Type 0} (f : Item → Option X) (before : List Item) (i : Item) (x : X) → f i ≡ Some x
    → filter_map f (before ++ i ∷ []) ≡ filter_map f before ++ x ∷ []
added f before i x e = filter_map-append f before (i ∷ []) ∙ ap (λ o. filter_map f before ++ cons_option o []) e

pub same : {X : Type 0} (f : Item → Option X) (before : List Item) (i : Item) → f i ≡ None → filter_map f (before ++ i ∷ []) ≡ filter_map f before
same f before i e = filter_map-append f before (i ∷ []) ∙ ap (λ o. filter_map f before ++ cons_option o []) e ∙ append-nil (filter_map f before)

pub same_heads : (before : List Item) (i : Item) → microop_of i ≡ None → heads_in (before ++ i ∷ []) ≡ heads_in before
same_heads before i e = ap (map (λ (m : Microop). m.head)) (same microop_of before i e)

pub added_head : (before : List Item) (m : Microop) → heads_in (before ++ microop m ∷ []) ≡ heads_in before ++ m.head ∷ []
added_head before m =
    ap (map (λ (n : Microop). n.head)) (added microop_of before (microop m) m refl) ∙ map-append (λ (n : Microop). n.head) (microops_in before) (m ∷ [])

-- an end that is among the micro-ops keeps its place
pub place_in-append : (xs ys : List Head) (x : End) → place_in xs x < length xs → place_in (xs ++ ys) x ≡ place_in xs x
place_in-append [] ys x below = absurd (omega arith)
place_in-append (h ∷ xs) ys x below = by (λ d. place_in-append xs ys x d) (is_named x h) refl below
  where
    by : (place_in xs x < length xs → place_in (xs ++ ys) x ≡ place_in xs x) → (b : Bool) → is_named x h ≡ b
        → place_in (h ∷ xs) x < length (h ∷ xs) → place_in (h ∷ (xs ++ ys)) x ≡ place_in (h ∷ xs) x
    by later true e d = simp e
    by later false e d = let raw = simp e at d in let less : place_in xs x < length xs = omega arith in simp (e, later less)

-- an end that is no fault is among the micro-ops
pub known : (heads : List Head) (x : End) → Never (Unknown heads x) → place_in heads x < length heads
known heads x never =
    let no : length heads ≤ place_in heads x → ⊥ = λ past. never (OpUnknown x.g.value x.n) x.g.at (place_in-none heads x past, refl, refl) in
    omega arith

dependency_of-append : (heads more : List Head) (r : Relationship) → Never (First (Unknown heads r.source) (Unknown heads r.target))
    → dependency_of heads r ≡ dependency_of (heads ++ more) r
dependency_of-append heads more r never =
    let s = place_in-append heads more r.source (known heads r.source (never-first (Unknown heads r.source) (Unknown heads r.target) never)) in
    let t = place_in-append heads more r.target (known heads r.target (never-others (Unknown heads r.source) (Unknown heads r.target) never)) in
    sym (λ i. record { kind = r.kind; source = s i; target = t i })

pub has_microop : (old new : CaseBuilder) (before : List Item) (m : Microop) → HasLines old before → AddsMicroop old new m
    → HasLines new (before ++ microop m ∷ [])
has_microop old new before m k a = record {
  heads = a.heads ∙ ap (λ (hs : List Head). hs ++ m.head ∷ []) k.heads ∙ sym (added_head before m);
  ops = a.ops ∙ ap (λ (os : List MicroOp). os ++ op_of m ∷ []) k.ops ∙ sym (map-append op_of (microops_in before) (m ∷ []))
      ∙ ap (map op_of) (sym (added microop_of before (microop m) m refl));
  dependencies = λ more.
      ap (map dependency) a.dependencies ∙ k.dependencies (m.head ∷ more)
      ∙ ap (λ (hs : List Head). map (dependency_of hs) (relationships_in before))
      (sym (append_assoc (heads_in before) (m.head ∷ []) more) ∙ ap (λ (hs : List Head). hs ++ more) (sym (added_head before m)))
      ∙ ap (map (dependency_of (heads_in (before ++ microop m ∷ []) ++ more))) (sym (same relationship_of before (microop m) refl));
  initial = a.initial ∙ k.initial ∙ ap (map stated_of) (sym (same initial_of before (microop m) refl));
  final_values = a.final_values ∙ k.final_values ∙ ap (map stated_of) (sym (same final_of before (microop m) refl));
  expected = ap stated_expectations a.expected ∙ k.expected ∙ sym (same expectation_of before (microop m) refl);
}

-- what a line that is no micro-op and no relationship keeps
has_others : (old new : CaseBuilder) (before : List Item) (i : Item) → microop_of i ≡ None → relationship_of i ≡ None
    → HasLines old before → new.heads ≡ old.heads → new.ops ≡ old.ops → new.dependencies ≡ old.dependencies
    → new.initial ≡ map stated_of (initial_in (before ++ i ∷ [])) → new.final_values ≡ map stated_of (final_in (before ++ i ∷ []))
    → stated_expectations new.expected ≡ expectations_in (before ++ i ∷ []) → HasLines new (before ++ i ∷ [])
has_others old new before i no_op no_line k h o d initials finals stands = record {
  heads = ap (λ v. v.items) h ∙ k.heads ∙ sym (same_heads before i no_op);
  ops = ap (map micro_op) o ∙ k.ops ∙ ap (map op_of) (sym (same microop_of before i no_op));
  dependencies = λ more.
      ap (map dependency) d ∙ k.dependencies more
      ∙ ap (λ (hs : List Head). map (dependency_of (hs ++ more)) (relationships_in before)) (sym (same_heads before i no_op))
      ∙ ap (map (dependency_of (heads_in (before ++ i ∷ []) ++ more))) (sym (same relationship_of before i no_line));
  initial = initials;
  final_values = finals;
  expected = stands;
}

pub has_relationship : (old new : CaseBuilder) (before : List Item) (r : Relationship) → HasLines old before
    → Never (First (Unknown (heads_in before) r.source) (Unknown (heads_in before) r.target))
    → AddsRelationship old new r → HasLines new (before ++ relationship r ∷ [])
has_relationship old new before r k never a =
    let i = relationship r in record {
      heads = ap (λ v. v.items) a.heads ∙ k.heads ∙ sym (same_heads before i refl);
      ops = ap (map micro_op) a.ops ∙ k.ops ∙ ap (map op_of) (sym (same microop_of before i refl));
      dependencies = λ more.
          a.dependencies
          ∙ ap (λ (ds : List Dependency). ds ++ dependency_of old.heads.items r ∷ []) (k.dependencies more)
          ∙ ap (λ (x : Dependency). map (dependency_of (heads_in before ++ more)) (relationships_in before) ++ x ∷ [])
          (ap (λ (hs : List Head). dependency_of hs r) k.heads ∙ dependency_of-append (heads_in before) more r never)
          ∙ sym (map-append (dependency_of (heads_in before ++ more)) (relationships_in before) (r ∷ []))
          ∙ ap (map (dependency_of (heads_in before ++ more))) (sym (added relationship_of before i r refl))
          ∙ ap (λ (hs : List Head). map (dependency_of (hs ++ more)) (relationships_in (before ++ i ∷ []))) (sym (same_heads before i refl));
      initial = a.initial ∙ k.initial ∙ ap (map stated_of) (sym (same initial_of before i refl));
      final_values = a.final_values ∙ k.final_values ∙ ap (map stated_of) (sym (same final_of before i refl));
      expected = ap stated_expectations a.expected ∙ k.expected ∙ sym (same expectation_of before i refl);
    }

pub has_initial : (old : CaseBuilder) (before : List Item) (v : ValueLine) (lines : List Stated) → HasLines old before
    → lines ≡ old.initial ++ stated_of v ∷ [] → HasLines (record old { initial = lines }) (before ++ initial v ∷ [])
has_initial old before v lines k e =
    let i = initial v in
    has_others old (record old { initial = lines }) before i refl refl k refl refl refl
    (e ∙ ap (λ (ls : List Stated). ls ++ stated_of v ∷ []) k.initial ∙ sym (map-append stated_of (initial_in before) (v ∷ []))
    ∙ ap (map stated_of) (sym (added initial_of before i v refl)))
    (k.final_values ∙ ap (map stated_of) (sym (same final_of before i refl)))
    (k.expected ∙ sym (same expectation_of before i refl))

pub has_final : (old : CaseBuilder) (before : List Item) (v : ValueLine) (lines : List Stated) → HasLines old before
    → lines ≡ old.final_values ++ stated_of v ∷ [] → HasLines (record old { final_values = lines }) (before ++ final v ∷ [])
has_final old before v lines k e =
    let i = final v in
    has_others old (record old { final_values = lines }) before i refl refl k refl refl refl
    (k.initial ∙ ap (map stated_of) (sym (same initial_of before i refl)))
    (e ∙ ap (λ (ls : List Stated). ls ++ stated_of v ∷ []) k.final_values ∙ sym (map-append stated_of (final_in before) (v ∷ []))
    ∙ ap (map stated_of) (sym (added final_of before i v refl)))
    (k.expected ∙ sym (same expectation_of before i refl))

-- no expectation stands before one that is no fault
pub none_expected : (es : List (Expectation × Place)) (at : Place) → Never (AgainExpected es at) → es ≡ []
none_expected [] at never = refl
none_expected (e ∷ es) at never = absurd (never _ at (e, (zero, omega arith, refl), refl, refl))

pub has_expectation : (old : CaseBuilder) (before : List Item) (i : Item) (s : StatedExpectation) (e : Expectation × Place) → HasLines old before
    → microop_of i ≡ None → relationship_of i ≡ None → initial_of i ≡ None → final_of i ≡ None → expectation_of i ≡ Some e
    → stated_expectations (Some s) ≡ e ∷ [] → (at : Place) → Never (AgainExpected (expectations_in before) at)
    → HasLines (record old { expected = Some s }) (before ++ i ∷ [])
has_expectation old before i s e k no_op no_line no_initial no_final is said at never =
    has_others old (record old { expected = Some s }) before i no_op no_line k refl refl refl
    (k.initial ∙ ap (map stated_of) (sym (same initial_of before i no_initial)))
    (k.final_values ∙ ap (map stated_of) (sym (same final_of before i no_final)))
    (said ∙ ap (λ (es : List (Expectation × Place)). es ++ e ∷ []) (sym (none_expected (expectations_in before) at never))
    ∙ sym (added expectation_of before i e is))
