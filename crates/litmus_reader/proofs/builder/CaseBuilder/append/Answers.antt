use Rattle.std.proofs.Common.{◌≡◌, List, [], ◌∷◌, ◌++◌, ◌∙◌, subst, sym, ap, refl, arith, length}
use Rattle.pc_common.specs.{declared.{fault.FaultKind.TheVariants.{AgainInitial, AgainFinal}, value.Value.{Value}}, Case.{permitted, forbidden}}
use Rattle.pc_case.specs.declared.stated.Stated.{Stated}
use Rattle.litmus_reader.specs.{Values.{IsUnstated}, Items.{heads_in, initial_in, final_in}, Content.{Never, AgainStated, MarkFault, IsFaultOf}}
use Rattle.litmus_reader.{specs.{Builder.{HasLines}, declared.{builder.CaseBuilder.{CaseBuilder}, item.Item.{Item}}}, proofs.ValueFacts.{again-none}}
use Rattle.litmus_reader.proofs.BuilderFacts.{on_ok, never-first, has_microop, has_relationship, has_initial, has_final, has_expectation}
use Rattle.litmus_reader.proofs.CleanFacts.{core_fits, head_never, few}
use Rattle.litmus_reader.proofs.builder.CaseBuilder.append.Goals as goal

-- what is same of an item, of the variant that it is
judged : (before : List Item) (item same : Item) → item ≡ same → Never (IsFaultOf before item) → Never (IsFaultOf before same)
judged before item same e never = subst (λ (i : Item). Never (IsFaultOf before i)) e never

has_line : (new : CaseBuilder) (before : List Item) (item same : Item) → item ≡ same → HasLines new (before ++ same ∷ []) → HasLines new (before ++ item ∷ [])
has_line new before item same e k = subst (λ (i : Item). HasLines new (before ++ i ∷ [])) (sym e) k

pub add_microop-requires : goal.add_microop-requires
add_microop-requires c =
    let (before, k, clean, never) = c.requires in
    core_fits (heads_in before) c.in-Microop.microop.head (head_never before c.in-Microop.microop (judged before c.args.item _ c.in-Microop.is never))

pub add_relationship-requires : goal.add_relationship-requires
add_relationship-requires c =
    let (before, k, clean, never) = c.requires in
    omega (arith, few before clean, ap length k.heads)

pub add-requires : goal.add-requires
add-requires c =
    let (before, k, clean, never) = c.requires in
    subst (λ (lines : List Stated). IsUnstated lines c.in-Initial.line.pa) (sym k.initial)
    (again-none AgainInitial (initial_in before) c.in-Initial.line
    (never-first (AgainStated AgainInitial (initial_in before) c.in-Initial.line) (MarkFault c.in-Initial.line.value)
    (judged before c.args.item _ c.in-Initial.is never)))

pub add-requires-in-Final : goal.add-requires-in-Final
add-requires-in-Final c =
    let (before, k, clean, never) = c.requires in
    subst (λ (lines : List Stated). IsUnstated lines c.in-Final.line.pa) (sym k.final_values)
    (again-none AgainFinal (final_in before) c.in-Final.line
    (never-first (AgainStated AgainFinal (final_in before) c.in-Final.line) (MarkFault c.in-Final.line.value)
    (judged before c.args.item _ c.in-Final.is never)))

pub returns-in-Microop : goal.returns-in-Microop
returns-in-Microop c =
    on_ok c.add_microop.result
    (λ adds before k clean never. has_line c.add_microop.new.self before c.args.item _ c.in-Microop.is
    (has_microop c.args.self.now c.add_microop.new.self before c.in-Microop.microop k adds))
    c.add_microop.ensures

pub returns-in-Relationship : goal.returns-in-Relationship
returns-in-Relationship c =
    on_ok c.add_relationship.result
    (λ adds before k clean never. has_line c.add_relationship.new.self before c.args.item _ c.in-Relationship.is
    (has_relationship c.args.self.now c.add_relationship.new.self before c.in-Relationship.relationship k
    (judged before c.args.item _ c.in-Relationship.is never) adds))
    c.add_relationship.ensures

pub returns-in-Initial : goal.returns-in-Initial
returns-in-Initial c =
    on_ok c.add.result
    (λ adds before k clean never. has_line _ before c.args.item _ c.in-Initial.is
    (has_initial c.args.self.now before c.in-Initial.line c.add.new.self k
    (adds ∙ ap (λ (x : Value). c.args.self.now.initial ++ record { pa = c.in-Initial.line.pa; value = x } ∷ []) c.value.ensures)))
    c.add.ensures

pub returns-in-Final : goal.returns-in-Final
returns-in-Final c =
    on_ok c.add-in-Final.result
    (λ adds before k clean never. has_line _ before c.args.item _ c.in-Final.is
    (has_final c.args.self.now before c.in-Final.line c.add-in-Final.new.self k
    (adds ∙ ap (λ (x : Value). c.args.self.now.final_values ++ record { pa = c.in-Final.line.pa; value = x } ∷ []) c.value-in-Final.ensures)))
    c.add-in-Final.ensures

pub returns-in-Permitted : goal.returns-in-Permitted
returns-in-Permitted c = λ before k clean never.
    has_line _ before c.args.item _ c.in-Permitted.is
    (has_expectation c.args.self.now before _ _ (permitted, c.in-Permitted.at) k refl refl refl refl refl refl c.in-Permitted.at
    (judged before c.args.item _ c.in-Permitted.is never))

pub returns-in-Forbidden : goal.returns-in-Forbidden
returns-in-Forbidden c = λ before k clean never.
    has_line _ before c.args.item _ c.in-Forbidden.is
    (has_expectation c.args.self.now before _ _ (forbidden, c.in-Forbidden.at) k refl refl refl refl refl refl c.in-Forbidden.at
    (judged before c.args.item _ c.in-Forbidden.is never))
