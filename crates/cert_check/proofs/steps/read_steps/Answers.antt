use Rattle.cert_check.{specs.Questions.{question_of}, proofs.StepReads.{ahead_start, no_header, all_start, all_read, none_ahead}}
use Rattle.cert_check.proofs.steps.read_steps.Goals as goal

pub returns-in_default : goal.returns-in_default
returns-in_default c = λ steps t. absurd (no_header (question_of c.args.front.now) c.args.text.now steps t (rw c.expect.ensures at c.in_default.ensures))

pub loop-refutation-init : goal.loop-refutation-init
loop-refutation-init c = λ steps t.
    let q = question_of c.args.front.now in
    all_start q.names c.of-names.result c.of-names.ensures.view c.new-refutation.result c.new-refutation.ensures
    (ahead_start q (c.show_asked.ensures c.of-names.ensures.view) c.args.text.now c.in-Some.left.now steps t (rw c.expect.ensures at c.in-Some.ensures))

pub take_step-requires : goal.take_step-requires
take_step-requires c =
    let a = c.loop-refutation.invariant c.requires.0 c.requires.1 in
    let q = question_of c.args.front.now in (q.tree, a.more, a.ahead)

pub loop-refutation-preserved : goal.loop-refutation-preserved
loop-refutation-preserved c = λ steps t.
    let a = c.loop-refutation.invariant steps t in
    let q = question_of c.args.front.now in
    all_read c.take_step.new.refutation c.in-Some-2.rest.now a (rw c.in-Some-2.is at (c.in_ok-rest.ensures.read q.tree a.more a.ahead))

pub returns : goal.returns
returns c = λ steps t.
    let a = c.loop-refutation.invariant steps t in
    let q = question_of c.args.front.now in
    none_ahead c.take_step.new.refutation a (rw c.in_default-2.is at (c.in_ok-rest.ensures.read q.tree a.more a.ahead))
