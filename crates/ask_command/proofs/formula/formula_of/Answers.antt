use Rattle.ask_command.proofs.QueryEnds.{parse_ends}
use Rattle.ask_command.proofs.formula.formula_of.Goals as goal

pub returns-in-Ok-clause-ok : goal.returns-in-Ok-clause-ok
returns-in-Ok-clause-ok c = record {
  tokens = c.args.tokens.now;
  spelled = c.requires.spelled;
  tree = c.in-Ok.ensures.tree;
  accepted = c.in-Ok.ensures.accepted;
}

pub returns-in-Err-clause-err : goal.returns-in-Err-clause-err
returns-in-Err-clause-err c =
    rw c.no_tree.ensures (λ m. parse_ends m c.args.bytes.now c.args.tokens.now c.in-Err.fault c.requires.spelled c.in-Err.ensures.fault)
