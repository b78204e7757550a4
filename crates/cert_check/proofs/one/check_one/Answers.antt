use Rattle.pc_common.proofs.Bools.{clash}
use Rattle.cert_check.specs.{Questions.{question_of}, declared.one.One.TheVariants.{Graph, Tree, Refused}}
use Rattle.cert_check.proofs.OneTexts.{one_two, one_seen, tree_steps, one_unseen, one_at, only_one}
use Rattle.cert_check.proofs.one.check_one.Goals as goal

pub returns-then-refuses_two-clause-is : goal.returns-then-refuses_two-clause-is
returns-then-refuses_two-clause-is c =
    let two = c.refuses_two.ensures.0 c.if-refuses_two.true in
    one_two (question_of c.args.front.now) (c.show_asked.ensures c.of-names.ensures.view) c.args.bytes.now two.0 two.1

pub returns-then-refuses_two-clause-only : goal.returns-then-refuses_two-clause-only
returns-then-refuses_two-clause-only c =
    let two = c.refuses_two.ensures.0 c.if-refuses_two.true in
    let q = question_of c.args.front.now in
    only_one q c.args.bytes.now (Refused 3) (one_two q (c.show_asked.ensures c.of-names.ensures.view) c.args.bytes.now two.0 two.1) tt

pub read_steps-requires : goal.read_steps-requires
read_steps-requires c =
    tree_steps (question_of c.args.front.now) c.args.bytes.now (λ short two. clash (c.refuses_two.ensures.1 (short, two)) c.if-refuses_two.false)
    (rw c.in-Unobservable.is at c.in_ok-check_text.ensures.verified)

pub returns-in-Observable-clause-is : goal.returns-in-Observable-clause-is
returns-in-Observable-clause-is c = one_seen (question_of c.args.front.now) c.args.bytes.now (rw c.in-Observable.is at c.in_ok-check_text.ensures.verified)

pub returns-in-Observable-clause-only : goal.returns-in-Observable-clause-only
returns-in-Observable-clause-only c =
    let q = question_of c.args.front.now in
    only_one q c.args.bytes.now Graph (one_seen q c.args.bytes.now (rw c.in-Observable.is at c.in_ok-check_text.ensures.verified)) tt

pub returns-in_ok-read_steps-in-Unobservable-clause-is : goal.returns-in_ok-read_steps-in-Unobservable-clause-is
returns-in_ok-read_steps-in-Unobservable-clause-is c =
    one_unseen (question_of c.args.front.now) c.args.bytes.now c.in_ok-read_steps-in-Unobservable.field-0
    (λ short two. clash (c.refuses_two.ensures.1 (short, two)) c.if-refuses_two.false)
    (rw c.in-Unobservable.is at c.in_ok-check_text.ensures.verified) c.in_ok-read_steps-in-Unobservable.ensures

pub returns-in_ok-read_steps-in-Unobservable-clause-only : goal.returns-in_ok-read_steps-in-Unobservable-clause-only
returns-in_ok-read_steps-in-Unobservable-clause-only c =
    let q = question_of c.args.front.now in let read = c.in_ok-read_steps-in-Unobservable.field-0 in
    only_one q c.args.bytes.now (Tree read)
    (one_unseen q c.args.bytes.now read (λ short two. clash (c.refuses_two.ensures.1 (short, two)) c.if-refuses_two.false)
    (rw c.in-Unobservable.is at c.in_ok-check_text.ensures.verified) c.in_ok-read_steps-in-Unobservable.ensures)
    c.in_ok-read_steps-in-Unobservable.ensures

pub returns-in-Refused-clause-is : goal.returns-in-Refused-clause-is
returns-in-Refused-clause-is c =
    one_at (question_of c.args.front.now) c.args.bytes.now c.in-Refused.line (c.show_asked.ensures c.of-names.ensures.view)
    (λ short two. clash (c.refuses_two.ensures.1 (short, two)) c.if-refuses_two.false)
    (rw c.in-Refused.is at c.in_ok-check_text.ensures.verified)

pub returns-in-Refused-clause-only : goal.returns-in-Refused-clause-only
returns-in-Refused-clause-only c =
    let q = question_of c.args.front.now in
    only_one q c.args.bytes.now (Refused c.in-Refused.line)
    (one_at q c.args.bytes.now c.in-Refused.line (c.show_asked.ensures c.of-names.ensures.view)
    (λ short two. clash (c.refuses_two.ensures.1 (short, two)) c.if-refuses_two.false)
    (rw c.in-Refused.is at c.in_ok-check_text.ensures.verified))
    tt
