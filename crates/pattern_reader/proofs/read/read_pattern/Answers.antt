use Rattle.std.proofs.lemmas.Result.{err_from_is_err_and}
use Rattle.pattern_reader.proofs.Patterns.{tokens_end}
use Rattle.pattern_reader.proofs.read.read_pattern.Goals as goal

pub returns-in_err-tokens-clause-err : goal.returns-in_err-tokens-clause-err
returns-in_err-tokens-clause-err c =
    let end = err_from_is_err_and c.from_residual.result c.from_residual.ensures.1 in
    rw (end.1, end.2) (tokens_end c.args.bytes.now c.in_err-tokens.field-0.0 c.in_err-tokens.ensures.err)
