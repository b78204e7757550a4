use Rattle.std.proofs.{Common.{◌≡◌, None, refl, sym, ◌∙◌, map, subst}, lemmas.Result.{IfOk-weaker, IfErr-weaker, err_from_is_err_and}}
use Rattle.pc_syntax.specs.{Written.{written_model}, Observable.{axioms_of}, ModelFault.{first_model_fault}, NameFaults.{first_name_fault}}
use Rattle.pc_ground.specs.Stages.{plain_axioms}
use Rattle.scope_check.specs.FirstFault.{IsNoneOr}
use Rattle.pc_front.{specs.{ModelFront.{closed_axiom}, ModelSteps.{IsFirstEnd}}, proofs.ShortNames.{stage_fault_same, name_fault_same, fault_same, axioms_same}}
use Rattle.pc_front.proofs.reading.closed_axioms.Goals as goal

pub returns-in_err-short-clause-err : goal.returns-in_err-short-clause-err
returns-in_err-short-clause-err c =
    let end = err_from_is_err_and c.from_residual.result c.from_residual.ensures.1 in
    rw (end.1, end.2) (None, tt, refl)

pub closings-requires : goal.closings-requires
closings-requires c =
    stage_fault_same (written_model c.args.model.now) (written_model c.in-Some.short) (rw c.in-Some.is at c.in_ok-short.ensures.renamed) ∙ c.requires

pub returns-in-Some-clause-no_fault : goal.returns-in-Some-clause-no_fault
returns-in-Some-clause-no_fault c =
    let m = written_model c.args.model.now in
    let n = written_model c.in-Some.short in
    IfOk-weaker c.closings.result (λ _. first_model_fault n ≡ None) (λ _. first_model_fault m ≡ None)
    (λ _ none. sym (fault_same m n (rw c.in-Some.is at c.in_ok-short.ensures.renamed)) ∙ none) c.closings.ensures.no_fault

pub returns-in-Some-clause-no_name_fault : goal.returns-in-Some-clause-no_name_fault
returns-in-Some-clause-no_name_fault c =
    let m = written_model c.args.model.now in
    let n = written_model c.in-Some.short in
    IfOk-weaker c.closings.result (λ _. first_name_fault n ≡ None) (λ _. first_name_fault m ≡ None)
    (λ _ none. sym (name_fault_same m n (rw c.in-Some.is at c.in_ok-short.ensures.renamed)) ∙ none) c.closings.ensures.no_name_fault

pub returns-in-Some-clause-axioms : goal.returns-in-Some-clause-axioms
returns-in-Some-clause-axioms c =
    let m = written_model c.args.model.now in
    let n = written_model c.in-Some.short in
    IfOk-weaker c.closings.result
    (λ closed. plain_axioms closed ≡ map (closed_axiom n) (axioms_of n))
    (λ closed. plain_axioms closed ≡ map (closed_axiom m) (axioms_of m))
    (λ closed is. is ∙ axioms_same m n (rw c.in-Some.is at c.in_ok-short.ensures.renamed)) c.closings.ensures.axioms

pub returns-in-Some-clause-err : goal.returns-in-Some-clause-err
returns-in-Some-clause-err c =
    let m = written_model c.args.model.now in
    let n = written_model c.in-Some.short in
    IfErr-weaker c.closings.result (IsFirstEnd n) (IsFirstEnd m)
    (λ end (o, is, of). (o, subst (λ first. IsNoneOr first o) (fault_same m n (rw c.in-Some.is at c.in_ok-short.ensures.renamed)) is, of))
    c.closings.ensures.err
