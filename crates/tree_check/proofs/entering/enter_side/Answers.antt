use Rattle.std.proofs.lemmas.Result.{on_ok_weaker}
use Rattle.tree_check.proofs.entering.enter_side.Goals as goal

pub returns-clause-entered : goal.returns-clause-entered
returns-clause-entered c =
    on_ok_weaker c.enter_part.result (λ h t ps flat b. h t _ flat (c.in_ok-enter_denied.ensures.entered t ps flat b)) c.enter_part.ensures.entered
