use Rattle.std.proofs.lemmas.Result.{err_from_is_err_and}
use Rattle.pc_syntax.specs.Written.{written, written_model}
use Rattle.ask_command.proofs.InquiryParts.{no_stage_fault, two_ends, model_ends, query_ends}
use Rattle.ask_command.proofs.three_files.read_inquiry.Goals as goal

pub returns-in_err-model-clause-err : goal.returns-in_err-model-clause-err
returns-in_err-model-clause-err c =
    let end = err_from_is_err_and c.from_residual.result c.from_residual.ensures.1 in
    rw (end.1, end.2)
    (model_ends c.args.model_bytes.now c.args.test_bytes.now c.args.query_bytes.now c.in_err-model.field-0.0 c.in_err-model.ensures.err)

pub judged_parts-requires-clause-spelled : goal.judged_parts-requires-clause-spelled
judged_parts-requires-clause-spelled c = (c.args.model_bytes.now, c.in_ok-model.ensures.ok)

pub returns-in_err-parts-clause-err : goal.returns-in_err-parts-clause-err
returns-in_err-parts-clause-err c =
    let end = err_from_is_err_and c.from_residual-in_err-parts.result c.from_residual-in_err-parts.ensures.1 in
    rw (end.1, end.2)
    (two_ends c.args.model_bytes.now c.args.test_bytes.now c.args.query_bytes.now c.in_err-parts.field-0.0
    (c.in_err-parts.ensures.err c.args.model_bytes.now c.in_ok-model.ensures.ok))

pub returns-in_err-written-clause-err : goal.returns-in_err-written-clause-err
returns-in_err-written-clause-err c =
    let end = err_from_is_err_and c.from_residual-in_err-written.result c.from_residual-in_err-written.ensures.1 in
    let m = written_model c.in_ok-model.model in
    let parts = c.in_ok-parts.ensures.ok in
    rw (end.1, end.2)
    (query_ends c.args.model_bytes.now c.args.test_bytes.now c.args.query_bytes.now m parts.c c.in_err-written.field-0.0
    (record { model = c.in_ok-model.ensures.ok; no_fault = parts.no_fault }) parts.says_test (c.in_err-written.ensures.err m))

pub close_formula-requires : goal.close_formula-requires
close_formula-requires c = no_stage_fault (written_model c.in_ok-model.model) c.in_ok-parts.ensures.ok.no_fault

pub returns-in_err-formula-clause-err : goal.returns-in_err-formula-clause-err
returns-in_err-formula-clause-err c =
    let end = err_from_is_err_and c.from_residual-in_err-formula.result c.from_residual-in_err-formula.ensures.1 in
    let m = written_model c.in_ok-model.model in
    let parts = c.in_ok-parts.ensures.ok in
    rw (end.1, end.2)
    (query_ends c.args.model_bytes.now c.args.test_bytes.now c.args.query_bytes.now m parts.c c.in_err-formula.field-0.0
    (record { model = c.in_ok-model.ensures.ok; no_fault = parts.no_fault }) parts.says_test
    (c.in_err-formula.ensures.err c.args.query_bytes.now c.in_ok-written.ensures.ok))

pub returns-clause-ok : goal.returns-clause-ok
returns-clause-ok c =
    let parts = c.in_ok-parts.ensures.ok in
    let closed = c.in_ok-formula.ensures.ok in record {
      m = written_model c.in_ok-model.model;
      c = parts.c;
      f = written c.in_ok-written.written;
      says_model = record { model = c.in_ok-model.ensures.ok; no_fault = parts.no_fault };
      says_test = parts.says_test;
      says_query = record { formula = c.in_ok-written.ensures.ok; no_fault = closed.0 };
      inquiry_of = record { parts_of = parts.parts_of; formula_is = closed.1 };
    }
