use Rattle.std.proofs.{Common.{ℕ, Option, sym, subst}, lemmas.Result.{on_ok_weaker}}
use Rattle.tree_check.specs.{Sides.{with_denied}, OpenBranches.{IsBranch}}
use Rattle.tree_check.proofs.entering.enter_denied.Goals as goal

pub returns-in-None-clause-entered : goal.returns-in-None-clause-entered
returns-in-None-clause-entered c = λ t ps flat b.
    let P : Option ℕ → Type 0 = λ o. IsBranch t c.args.facts.now (with_denied t ps c.args.side.negated o) in
    subst P (sym c.in-None.is) b

pub returns-in-Some-clause-entered : goal.returns-in-Some-clause-entered
returns-in-Some-clause-entered c =
    on_ok_weaker c.enter_part.result (λ h t ps flat b.
    let P : Option ℕ → Type 0 = λ o. IsBranch t c.enter_part.new.facts (with_denied t ps c.args.side.negated o) in
    subst P (sym c.in-Some.is) (h t ps flat b)) c.enter_part.ensures.entered
