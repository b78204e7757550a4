use Rattle.std.proofs.{Common.{inl, inr, ◌++◌, sym, subst}, lemmas.Bool.{false≢true}}
use Rattle.pc_common.specs.declared.limits.TheConstants.{MAX_CERTIFICATE}
use Rattle.line_judge.specs.{Texts.{HoldsRefused}, Feeds.{IsDecided}}
use Rattle.lifted_check.specs.{LiftedTexts.{Question, BeginsLifted}, Fed.{judge_view}}
use Rattle.lifted_check.proofs.checker.LiftedChecker.feed.Goals as goal

pub returns-clause-took : goal.returns-clause-took
returns-clause-took c = λ q text fed.
    record { start = fed.start; asks = fed.asks; taken = c.in_ok-feed.ensures.took fed.start MAX_CERTIFICATE text fed.taken }

pub returns-in_err-feed-clause-settled : goal.returns-in_err-feed-clause-settled
returns-in_err-feed-clause-settled c = λ q text fed settled.
    let P : Question → Type 0 = λ p. HoldsRefused (BeginsLifted p) text in
    let own : IsDecided (judge_view fed.start).begins MAX_CERTIFICATE text (text ++ c.args.piece.now) =
    elim settled [ inl past ↦ inl past | inr holds ↦ inr (subst P (sym fed.asks) holds) ] in
    absurd (false≢true (c.in_err-feed.ensures.sure fed.start MAX_CERTIFICATE text fed.taken own))
