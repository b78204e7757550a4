use Rattle.std.proofs.Common.{sym, ◌∙◌, ap}
use Rattle.pc_common.{specs.Lines.{second_text, unobservable}, proofs.Bools.{clash}}
use Rattle.cert_check.{specs.Subjects.{question_of_subject}, proofs.{Advances.{said_stuck}, Judged.{after_header}}}
use Rattle.cert_check.proofs.next.after_unobservable.Goals as goal

pub returns-then-not-is_second : goal.returns-then-not-is_second
returns-then-not-is_second c = λ lines st can.
    said_stuck (question_of_subject c.args.subject.now) lines c.args.line.now unobservable st.1
    (λ is. clash (c.is_second.ensures.1 (is ∙ ap (second_text unobservable) (sym c.expect.ensures))) c.if-not-is_second.true)

pub returns : goal.returns
returns c = λ lines st. (
  after_header c.args.subject.now st.1,
  c.in_ok-new.ensures (question_of_subject c.args.subject.now) st.0 lines st.1 c.args.line.now
      (c.is_second.ensures.0 c.if-not-is_second.false ∙ ap (second_text unobservable) c.expect.ensures),
)
