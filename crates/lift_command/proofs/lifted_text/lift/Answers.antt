use Rattle.std.{proofs.Common.{◌≡◌, ◌++◌, [], ◌∷◌, List, ℕ, sym, ◌∙◌, ap, subst}, specs.{Prelude.{codes}, List.{flat_map}}}
use Rattle.pc_common.specs.Lines.{unobservable, second_text}
use Rattle.pc_syntax.specs.declared.closed.Closed.{Closed}
use Rattle.pc_ground.specs.{Rows.{rows_of}, GroundTree.{closed_ground_tree}, Stages.{plain_axioms}, Refutes.{IsRefutation}}
use Rattle.pc_ground.specs.declared.version.Version.TheVariants.{One}
use Rattle.lifted_facts.specs.{PlainFacts.{root}, Lifted.{IsLiftedRefutation}}
use Rattle.lifted_check.specs.LiftedTexts.{asked}
use Rattle.lift_command.{specs.WrittenLines.{line_text}, proofs.{StepRuns.{values_fit}, WholeTexts.{whole_text}}}
use Rattle.lift_command.proofs.lifted_text.lift.Goals as goal

pub lift_steps-requires : goal.lift_steps-requires
lift_steps-requires c =
    let f = c.args.front.now in
    let T : List Closed → Type 0 = λ as_. f.tree ≡ rows_of (closed_ground_tree f.case (plain_axioms as_)) in
    let R : List Closed → Type 0 = λ as_. IsRefutation One (closed_ground_tree f.case (plain_axioms as_)) c.args.refutation.now in
    record { tree = subst T (sym c.as_slice.ensures.value) f.grounded; refuted = subst R (sym c.as_slice.ensures.value) c.requires }

pub put_lines-requires : goal.put_lines-requires
put_lines-requires c =
    let f = c.args.front.now in
    let steps = c.in_ok-steps.steps in
    let L : List Closed → Type 0 = λ as_. IsLiftedRefutation f.case (plain_axioms as_) steps in
    values_fit f.case steps (root (plain_axioms f.axioms) ∷ []) [] c.show_ops.ensures c.show_steps.ensures.cores
    (subst L c.as_slice.ensures.value c.in_ok-steps.ensures)

pub returns : goal.returns
returns c =
    let f = c.args.front.now in
    let steps = c.in_ok-steps.steps in
    let L : List Closed → Type 0 = λ as_. IsLiftedRefutation f.case (plain_axioms as_) steps in
    let head = codes "unobservable\n" ++ ((second_text unobservable f.case.expectation ++ codes "\n") ++ codes "lifted\n") in
    let lines = flat_map (line_text f.case.ops) steps in
    whole_text (asked f.case f.axioms) steps c.put.new.text.items (subst L c.as_slice.ensures.value c.in_ok-steps.ensures)
    c.show_ops.ensures c.show_steps.ensures.numbers c.show_steps.ensures.cores
    (c.in_ok-put.ensures ∙ ap (λ (t : List ℕ). t ++ codes "end\n")
    (c.in_ok-put_lines.ensures ∙ ap (λ (t : List ℕ). t ++ lines) (c.in_ok-put_header.ensures ∙ ap (λ (t : List ℕ). t ++ head) c.new-text.ensures.items)))
