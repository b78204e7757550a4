use Rattle.std.proofs.{Common.{◌≡◌, ℕ, List, [], ◌∷◌, map, length, subst, sym, ap, ◌∙◌, refl}, lemmas.List.{append-nil, length-map}}
use Rattle.pc_common.specs.Case.{Address, Value}
use Rattle.pc_case.specs.{MicroOps.{AreMicroOps}, Stated.{IsStatedOnce, AreWithin}, Plain.{micro_op, dependency, stated_value}, declared.stated.Stated.{Stated}}
use Rattle.litmus_reader.specs.Items.{microops_in, heads_in, relationships_in, initial_in, final_in, op_of, dependency_of, stated_by, expectation_among}
use Rattle.litmus_reader.specs.{Builder.{HasLines, stated_of}, declared.item.{Head.{Head}, Microop.{Microop}, ValueLine.{ValueLine}, Item.{Item}}}
use Rattle.litmus_reader.{specs.declared.builder.CaseBuilder.{CaseBuilder}, proofs.CleanFacts.{are_micro_ops, dependencies_within, initial_once, final_once}}
use Rattle.litmus_reader.proofs.builder.CaseBuilder.lists.Goals as goal

lines_stated : (lines : List ValueLine) → map stated_value (map stated_of lines) ≡ map stated_by lines
lines_stated [] = refl
lines_stated (v ∷ lines) = ap (λ (vs : List (Address × Value)). stated_by v ∷ vs) (lines_stated lines)

stated : (listed held : List Stated) (lines : List ValueLine) → listed ≡ held → held ≡ map stated_of lines → map stated_value listed ≡ map stated_by lines
stated listed held lines e k = ap (map stated_value) (e ∙ k) ∙ lines_stated lines

dependencies_are : (k : CaseBuilder) (items : List Item) → HasLines k items
    → map dependency k.dependencies ≡ map (dependency_of (heads_in items)) (relationships_in items)
dependencies_are k items keeps =
    keeps.dependencies [] ∙ ap (λ (hs : List Head). map (dependency_of hs) (relationships_in items)) (append-nil (heads_in items))

count : (k : CaseBuilder) (items : List Item) → HasLines k items → length (heads_in items) ≡ length k.ops
count k items keeps =
    length-map (microops_in items) (λ (m : Microop). m.head) ∙ sym (length-map (microops_in items) op_of) ∙ ap length (sym keeps.ops)
    ∙ length-map k.ops micro_op

pub returns-clause-kept : goal.returns-clause-kept
returns-clause-kept c =
    let (items, keeps, clean) = c.requires in
    let initial = stated c.in_ok-initial.initial c.args.self.initial (initial_in items) c.in_ok-initial.ensures.0 keeps.initial in
    let final = stated c.in_ok-initial.final_values c.args.self.final_values (final_in items) c.in_ok-initial.ensures.1 keeps.final_values in record {
      kept = subst AreMicroOps (sym keeps.ops) (are_micro_ops items clean);
      within = subst (λ (n : ℕ). AreWithin n (map dependency c.args.self.dependencies)) (count c.args.self items keeps)
          (subst (AreWithin (length (heads_in items))) (sym (dependencies_are c.args.self items keeps)) (dependencies_within items clean));
      initial_once = subst IsStatedOnce (sym initial) (initial_once items clean);
      final_once = subst IsStatedOnce (sym final) (final_once items clean);
    }

pub returns-clause-said : goal.returns-clause-said
returns-clause-said c = λ items keeps clean.
    let ops = keeps.ops in
    let dependencies = dependencies_are c.args.self items keeps in
    let initial = stated c.in_ok-initial.initial c.args.self.initial (initial_in items) c.in_ok-initial.ensures.0 keeps.initial in
    let final = stated c.in_ok-initial.final_values c.args.self.final_values (final_in items) c.in_ok-initial.ensures.1 keeps.final_values in
    let expected = c.expect_of-expect.ensures ∙ ap expectation_among keeps.expected in
    (λ i. record { ops = ops i; dependencies = dependencies i; initial = initial i; final = final i; expectation = expected i })
