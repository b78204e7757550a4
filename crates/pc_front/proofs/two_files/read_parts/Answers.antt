use Rattle.std.proofs.{Common.{rules}, lemmas.Result.{err_from_is_err_and}}
use Rattle.pc_front.proofs.PartsOf.{axioms_within, are_stages, model_end, test_end, parts_are}
use Rattle.pc_front.proofs.two_files.read_parts.Goals as goal

pub returns-in_err-model-clause-err : goal.returns-in_err-model-clause-err
returns-in_err-model-clause-err c = search (rules, model_end)

pub returns-in_err-case-clause-err : goal.returns-in_err-case-clause-err
returns-in_err-case-clause-err c =
    let end = err_from_is_err_and c.from_residual-in_err-case.result c.from_residual-in_err-case.ensures.1 in
    let ok = c.in_ok-model.ensures.ok in
    rw (end.1, end.2)
    (test_end c.args.model_bytes.now c.args.test_bytes.now ok.0 c.in_err-case.field-0.0
    (record { model = ok.1; no_fault = ok.2.no_fault }) c.in_err-case.ensures.err)

pub parts_of-requires-clause-named : goal.parts_of-requires-clause-named
parts_of-requires-clause-named c =
    let ok = c.in_ok-model.ensures.ok in are_stages ok.0 ok.2.no_fault c.in_ok-model.model ok.2 ok.1

pub parts_of-requires-clause-within : goal.parts_of-requires-clause-within
parts_of-requires-clause-within c =
    let ok = c.in_ok-model.ensures.ok in axioms_within ok.0 ok.2.no_fault c.in_ok-model.model ok.2

pub returns-clause-ok : goal.returns-clause-ok
returns-clause-ok c =
    let ok = c.in_ok-model.ensures.ok in
    let is = c.parts_of.ensures in record {
      m = ok.0;
      c = c.in_ok-case.case;
      says_model = record { model = ok.1; no_fault = ok.2.no_fault };
      says_test = c.in_ok-case.ensures.ok;
      parts_of = parts_are ok.0 c.in_ok-case.case c.in_ok-model.model c.parts_of.result ok.2 is.0 is.1 is.2;
    }
