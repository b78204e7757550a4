use Rattle.std.proofs.lemmas.Result.{err_from_is_err_and}
use Rattle.sweep_command.proofs.PatternFiles.{model_end, pattern_end}
use Rattle.sweep_command.proofs.inputs.make_task.Goals as goal

pub returns-in_err-model-clause-err : goal.returns-in_err-model-clause-err
returns-in_err-model-clause-err c =
    let end = err_from_is_err_and c.from_residual.result c.from_residual.ensures.1 in
    rw (end.1, end.2) (model_end c.args.model.now c.args.second.now c.in_err-model.field-0.0 c.in_err-model.ensures.err)

pub returns-in_err-pattern-clause-err : goal.returns-in_err-pattern-clause-err
returns-in_err-pattern-clause-err c =
    let end = err_from_is_err_and c.from_residual-in_err-pattern.result c.from_residual-in_err-pattern.ensures.1 in
    let ok = c.in_ok-model.ensures.ok in
    rw (end.1, end.2)
    (pattern_end c.args.model.now c.args.second.now ok.0 c.in_err-pattern.field-0.0
    (record { model = ok.1; no_fault = ok.2.no_fault }) c.in_err-pattern.ensures.err)

pub returns-clause-ok : goal.returns-clause-ok
returns-clause-ok c =
    let ok = c.in_ok-model.ensures.ok in record {
      m = ok.0;
      says_model = record { model = ok.1; no_fault = ok.2.no_fault };
      model_of = ok.2;
      says_pattern = c.in_ok-pattern.ensures.ok;
    }
