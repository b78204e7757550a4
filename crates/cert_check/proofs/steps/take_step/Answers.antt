use Rattle.std.proofs.Common.{refl}
use Rattle.pc_common.proofs.Bools.{clash}
use Rattle.cert_check.proofs.StepReads.{never_one_line, last_ahead, is_open, is_step, has_read}
use Rattle.cert_check.proofs.steps.take_step.Goals as goal

pub returns-in_default-clause-read : goal.returns-in_default-clause-read
returns-in_default-clause-read c = λ t more ahead. absurd (never_one_line ahead c.in_default.ensures)

pub returns-then-is_end-clause-read : goal.returns-then-is_end-clause-read
returns-then-is_end-clause-read c = λ t more ahead. (last_ahead ahead c.in-Some.ensures (c.is_end.ensures.0 c.if-is_end.true), refl)

pub push_line-requires-clause-open : goal.push_line-requires-clause-open
push_line-requires-clause-open c = is_open c.requires.2 c.in-Some.ensures (λ e. clash (c.is_end.ensures.1 e) c.if-is_end.false)

pub push_line-requires-clause-said : goal.push_line-requires-clause-said
push_line-requires-clause-said c = is_step c.requires.2 c.in-Some.ensures (λ e. clash (c.is_end.ensures.1 e) c.if-is_end.false)

pub returns-clause-read : goal.returns-clause-read
returns-clause-read c = λ t more ahead.
    has_read c.push_line.new.refutation ahead c.in-Some.ensures (λ e. clash (c.is_end.ensures.1 e) c.if-is_end.false) c.in_ok-push_line.ensures
