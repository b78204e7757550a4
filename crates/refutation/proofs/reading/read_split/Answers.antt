use Rattle.refutation.proofs.StepWalk.{split_read, split_none}
use Rattle.refutation.proofs.reading.read_split.Goals as goal

pub returns-in-Some : goal.returns-in-Some
returns-in-Some c = λ names.
    split_read names c.args.text.now c.read_sign-negated.result.0 c.read_sign-negated.result.1.now c.in-Some.position
    c.read_sign-negated.ensures.is c.in-Some.ensures

pub returns-in-None : goal.returns-in-None
returns-in-None c = λ names.
    split_none c.args.text.now c.read_sign-negated.result.0 c.read_sign-negated.result.1.now c.read_sign-negated.ensures.is
    c.read_sign-negated.ensures.plain c.in-None.ensures
