use Rattle.std.proofs.{Common.{◌≡◌, None, refl}, lemmas.Result.{IfOk-weaker, IfErr-weaker, err_from_is_err_and}}
use Rattle.pc_common.specs.declared.fault.Which.TheVariants.{Query}
use Rattle.pc_syntax.specs.{declared.closed.Closed.{Closed}, Written.{Written, WrittenModel, written_model}, Closed.{plain_closed}}
use Rattle.pc_front.specs.{declared.model_front.FrontEnd.{FrontEnd}, ModelFront.{closed_axiom}}
use Rattle.ask_command.specs.{Queries.{with_denial, first_query_fault}, Denials.{IsFirstQueryEnd}}
use Rattle.ask_command.proofs.ShortNames.{short_denial, short_stages, short_closed, short_end}
use Rattle.ask_command.proofs.denial.close_denied.Goals as goal

pub returns-in_err-short-clause-err : goal.returns-in_err-short-clause-err
returns-in_err-short-clause-err c =
    let end = err_from_is_err_and c.from_residual.result c.from_residual.ensures.1 in
    rw (end.1, end.2) (λ m f is. (Query, None, refl, refl))

pub close_as_named-requires-clause-denial : goal.close_as_named-requires-clause-denial
close_as_named-requires-clause-denial c =
    short_denial (written_model c.args.model.now) (written_model c.in-Some.short) (rw c.in-Some.is at c.in_ok-short.ensures.renamed) c.requires.denial

pub close_as_named-requires-clause-stages : goal.close_as_named-requires-clause-stages
close_as_named-requires-clause-stages c =
    short_stages (written_model c.args.model.now) (written_model c.in-Some.short) (rw c.in-Some.is at c.in_ok-short.ensures.renamed) c.requires.stages

pub returns-in-Some-clause-ok : goal.returns-in-Some-clause-ok
returns-in-Some-clause-ok c =
    let k = written_model c.args.model.now in
    let n = written_model c.in-Some.short in
    IfOk-weaker c.close_as_named.result
    (λ (x : Closed). (m : WrittenModel) (f : Written) → n ≡ with_denial m f → (first_query_fault m f ≡ None) × (plain_closed x.body ≡ closed_axiom m f))
    (λ (x : Closed). (m : WrittenModel) (f : Written) → k ≡ with_denial m f → (first_query_fault m f ≡ None) × (plain_closed x.body ≡ closed_axiom m f))
    (λ x. short_closed k n (rw c.in-Some.is at c.in_ok-short.ensures.renamed) (plain_closed x.body)) c.close_as_named.ensures.ok

pub returns-in-Some-clause-err : goal.returns-in-Some-clause-err
returns-in-Some-clause-err c =
    let k = written_model c.args.model.now in
    let n = written_model c.in-Some.short in
    IfErr-weaker c.close_as_named.result
    (λ (e : FrontEnd). (m : WrittenModel) (f : Written) → n ≡ with_denial m f → IsFirstQueryEnd m f e)
    (λ (e : FrontEnd). (m : WrittenModel) (f : Written) → k ≡ with_denial m f → IsFirstQueryEnd m f e)
    (short_end k n (rw c.in-Some.is at c.in_ok-short.ensures.renamed)) c.close_as_named.ensures.err
