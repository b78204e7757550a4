use Rattle.std.proofs.lemmas.Result.{err_from_is_err_and}
use Rattle.pc_syntax.specs.Written.{written_model}
use Rattle.pc_front.proofs.PartsOf.{axioms_within, are_stages, model_end, test_end, parts_are}
use Rattle.ask_command.proofs.three_files.judged_parts.Goals as goal

pub returns-in_err-front-clause-err : goal.returns-in_err-front-clause-err
returns-in_err-front-clause-err c =
    let end = err_from_is_err_and c.from_residual.result c.from_residual.ensures.1 in
    rw (end.1, end.2) (λ bytes of. model_end bytes c.args.test_bytes.now c.in_err-front.field-0.0 (c.in_err-front.ensures.err bytes of))

pub returns-in_err-case-clause-err : goal.returns-in_err-case-clause-err
returns-in_err-case-clause-err c =
    let m = written_model c.args.model.now in
    let end = err_from_is_err_and c.from_residual-in_err-case.result c.from_residual-in_err-case.ensures.1 in
    rw (end.1, end.2)
    (λ bytes of. test_end bytes c.args.test_bytes.now m c.in_err-case.field-0.0
    (record { model = of; no_fault = c.in_ok-front.ensures.ok.no_fault }) c.in_err-case.ensures.err)

pub parts_of-requires-clause-named : goal.parts_of-requires-clause-named
parts_of-requires-clause-named c =
    let is = c.in_ok-front.ensures.ok in
    are_stages (written_model c.args.model.now) is.no_fault c.in_ok-front.front is c.requires.spelled.1

pub parts_of-requires-clause-within : goal.parts_of-requires-clause-within
parts_of-requires-clause-within c =
    let is = c.in_ok-front.ensures.ok in axioms_within (written_model c.args.model.now) is.no_fault c.in_ok-front.front is

pub returns-clause-ok : goal.returns-clause-ok
returns-clause-ok c =
    let is = c.in_ok-front.ensures.ok in
    let p = c.parts_of.ensures in record {
      no_fault = is.no_fault;
      c = c.in_ok-case.case;
      says_test = c.in_ok-case.ensures.ok;
      parts_of = parts_are (written_model c.args.model.now) c.in_ok-case.case c.in_ok-front.front c.parts_of.result is p.0 p.1 p.2;
    }
