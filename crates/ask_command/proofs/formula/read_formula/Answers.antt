use Rattle.ask_command.proofs.QueryEnds.{lexical_ends}
use Rattle.ask_command.proofs.formula.read_formula.Goals as goal

pub returns-in-Err-clause-err : goal.returns-in-Err-clause-err
returns-in-Err-clause-err c =
    rw (c.move_end.ensures, c.from.ensures) (λ m. lexical_ends m c.args.bytes.now c.in-Err.fault c.in-Err.ensures.err)
