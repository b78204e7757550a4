use Rattle.std.{proofs.Common.{ap, sym, true, false, ◌∙◌, List, ℕ, ◌∷◌, [], ◌++◌}, specs.Prelude.{codes}}
use Rattle.pc_common.{specs.{Case.{Case}, Lines.{unobservable, second_text}}, proofs.Bools.{clash}}
use Rattle.lifted_check.proofs.Texts.{first_next}
use Rattle.lifted_check.proofs.next.after_first.Goals as goal

pub returns-then-is_second : goal.returns-then-is_second
returns-then-is_second c = λ q lines same st.
    let is = c.is_second.ensures.0 c.if-is_second.true ∙ ap (second_text unobservable) (c.expect.ensures ∙ ap (λ (d : Case). d.expectation) (sym same)) in
    ap (λ (ls : List (List ℕ)). ls ++ c.args.line.now ∷ []) st ∙ ap (λ (l : List ℕ). codes "unobservable" ∷ l ∷ []) is

pub returns-else-is_second : goal.returns-else-is_second
returns-else-is_second c = λ q lines same st begins.
    let to = ap (second_text unobservable) (ap (λ (d : Case). d.expectation) same ∙ sym c.expect.ensures) in
    clash (c.is_second.ensures.1 (first_next q lines c.args.line.now st begins ∙ to)) c.if-is_second.false
