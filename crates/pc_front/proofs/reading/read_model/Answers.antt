use Rattle.std.proofs.{Common.{ℕ, List}, lemmas.Result.{IfOk-weaker, IfErr-weaker}}
use Rattle.pc_syntax.specs.Written.{written_model}
use Rattle.pc_front.specs.ModelFront.{ModelOf, IsModelFront, IsModelFrontOf, IsModelEnd}
use Rattle.pc_front.proofs.reading.read_model.Goals as goal

pub returns-clause-ok : goal.returns-clause-ok
returns-clause-ok c =
    let m = written_model c.in_ok-model.model in
    IfOk-weaker c.judge_model.result (IsModelFrontOf m) (IsModelFront c.args.bytes.now) (λ front is. (m, c.in_ok-model.ensures.ok, is)) c.judge_model.ensures.ok

pub returns-clause-err : goal.returns-clause-err
returns-clause-err c =
    let m = written_model c.in_ok-model.model in
    IfErr-weaker c.judge_model.result (λ end. (bytes : List ℕ) → ModelOf bytes m → IsModelEnd bytes end) (IsModelEnd c.args.bytes.now)
    (λ end is. is c.args.bytes.now c.in_ok-model.ensures.ok) c.judge_model.ensures.err
