use Rattle.lifted_check.proofs.ValueWords.{no_such_op}
use Rattle.lifted_check.proofs.value.value_of.Goals as goal

pub returns-in_err-find-in-Some : goal.returns-in_err-find-in-Some
returns-in_err-find-in-Some c =
    let id = c.in-Some.id in let name = c.in-Some.ensures in
    rw c.from_residual.ensures
    (no_such_op c.args.case.now.ops c.args.word.now id.g id.n name.0 name.1 name.2 c.in_err-find-in-Some.ensures)
