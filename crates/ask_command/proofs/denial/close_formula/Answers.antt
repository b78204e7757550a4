use Rattle.std.proofs.{Common.{◌≡◌, ℕ, List, None}, lemmas.Result.{IfOk-weaker, IfErr-weaker}}
use Rattle.pc_syntax.specs.{declared.closed.Closed.{Closed}, Written.{Written, written, WrittenModel, written_model}, Closed.{plain_closed}}
use Rattle.pc_front.specs.{declared.model_front.FrontEnd.{FrontEnd}, ModelFront.{closed_axiom}}
use Rattle.ask_command.specs.{Queries.{FormulaOf, with_denial, first_query_fault, IsQueryEnd}, Denials.{IsFirstQueryEnd}}
use Rattle.ask_command.proofs.{InquiryParts.{stage_fault_kept}, QueryEnds.{first_end}}
use Rattle.ask_command.proofs.denial.close_formula.Goals as goal

pub close_denied-requires-clause-denial : goal.close_denied-requires-clause-denial
close_denied-requires-clause-denial c = (written_model c.args.model, written c.args.formula, c.in_ok-model.ensures)

pub close_denied-requires-clause-stages : goal.close_denied-requires-clause-stages
close_denied-requires-clause-stages c =
    stage_fault_kept (written_model c.in_ok-model.model) (written_model c.args.model) (written c.args.formula) c.in_ok-model.ensures c.requires

pub returns-clause-ok : goal.returns-clause-ok
returns-clause-ok c =
    let n = written_model c.in_ok-model.model in
    let m = written_model c.args.model in
    let f = written c.args.formula in
    IfOk-weaker c.close_denied.result
    (λ (x : Closed). (k : WrittenModel) (g : Written) → n ≡ with_denial k g → (first_query_fault k g ≡ None) × (plain_closed x.body ≡ closed_axiom k g))
    (λ (x : Closed). (first_query_fault m f ≡ None) × (plain_closed x.body ≡ closed_axiom m f))
    (λ x each. each m f c.in_ok-model.ensures) c.close_denied.ensures.ok

pub returns-clause-err : goal.returns-clause-err
returns-clause-err c =
    let n = written_model c.in_ok-model.model in
    let m = written_model c.args.model in
    let f = written c.args.formula in
    IfErr-weaker c.close_denied.result
    (λ (e : FrontEnd). (k : WrittenModel) (g : Written) → n ≡ with_denial k g → IsFirstQueryEnd k g e)
    (λ (e : FrontEnd). (bytes : List ℕ) → FormulaOf bytes f → IsQueryEnd m bytes e)
    (λ e each bytes of. first_end m f bytes of e (each m f c.in_ok-model.ensures)) c.close_denied.ensures.err
