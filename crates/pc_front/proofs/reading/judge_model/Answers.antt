use Rattle.std.proofs.{Common.{Some, sym, ◌∙◌, ap}, lemmas.Result.{err_from_is_err_and}}
use Rattle.pc_syntax.specs.{Closed.{closed_satisfies}, Written.{written_model}}
use Rattle.pc_front.proofs.FrontLaws.{stage_first, satisfied_alike, front_end, first_end}
use Rattle.pc_front.proofs.reading.judge_model.Goals as goal

pub returns-in_err-check_stages-clause-err : goal.returns-in_err-check_stages-clause-err
returns-in_err-check_stages-clause-err c =
    let m = written_model c.args.model.now in
    let end = err_from_is_err_and c.from_residual.result c.from_residual.ensures.1 in
    let (fault, is, end_is) = c.in_err-check_stages.ensures.err in
    rw (end.1, end.2, end_is) (λ bytes of. front_end bytes m of (Some fault) (stage_first m fault is))

pub returns-in_err-axioms-clause-err : goal.returns-in_err-axioms-clause-err
returns-in_err-axioms-clause-err c =
    let m = written_model c.args.model.now in
    let end = err_from_is_err_and c.from_residual-in_err-axioms.result c.from_residual-in_err-axioms.ensures.1 in
    rw (end.1, end.2) (λ bytes of. first_end bytes m of c.in_err-axioms.field-0.0 c.in_err-axioms.ensures.err)

pub returns-clause-ok : goal.returns-clause-ok
returns-clause-ok c =
    let m = written_model c.args.model.now in
    let made = c.in_ok-axioms.ensures in record {
      no_fault = made.no_fault;
      stages = c.in_ok-stages.ensures;
      axioms = made.axioms;
      true_alike = λ x w. satisfied_alike m made.no_name_fault x w ∙ ap (λ as_. closed_satisfies as_ x w) (sym made.axioms);
    }
