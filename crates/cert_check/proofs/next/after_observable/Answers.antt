use Rattle.std.proofs.Common.{◌≡◌, sym, ◌∙◌, ap, subst}
use Rattle.pc_common.{specs.Lines.{second_text, observable}, proofs.Bools.{clash}}
use Rattle.graph_text.specs.OpenGraphs.{PlainGraph}
use Rattle.cert_check.specs.{Subjects.{question_of_subject}, Stages.{GoesOn}, declared.stage.Stage.TheVariants.{Graph}}
use Rattle.cert_check.proofs.{Advances.{said_stuck, graph_begins}, Judged.{after_header}}
use Rattle.cert_check.proofs.next.after_observable.Goals as goal

pub returns-then-not-is_second : goal.returns-then-not-is_second
returns-then-not-is_second c = λ lines are can.
    said_stuck (question_of_subject c.args.subject.now) lines c.args.line.now observable are
    (λ is. clash (c.is_second.ensures.1 (is ∙ ap (second_text observable) (sym c.expect.ensures))) c.if-not-is_second.true)

pub returns : goal.returns
returns c = λ lines are.
    let q = question_of_subject c.args.subject.now in
    let P : PlainGraph → Type 0 = λ g. GoesOn q lines c.args.line.now (Graph g) in
    let text : c.args.line.now ≡ second_text observable q.expectation = c.is_second.ensures.0 c.if-not-is_second.false
    ∙ ap (second_text observable) c.expect.ensures in
    (after_header c.args.subject.now are, subst P (sym c.new.ensures) (graph_begins q lines c.args.line.now are text))
