use Rattle.std.{proofs.Common.{refl}, specs.Prelude.{codes}}
use Rattle.cert_check.{specs.Subjects.{question_of_subject}, proofs.{Advances.{graph_end_stuck, graph_ended}, Judged.{after_header}, Shown.{no_world, some_world}}}
use Rattle.cert_check.proofs.next.end_graph.Goals as goal

pub returns-then-not-branch : goal.returns-then-not-branch
returns-then-not-branch c = λ lines so_far can.
    graph_end_stuck (question_of_subject c.args.subject.now) c.args.graph.now lines (codes "end") so_far refl
    (no_world c.args.subject.now c.graph.result.now c.args.graph.now c.graph.ensures.nodes c.graph.ensures.edges
    c.in_ok-check_graph_of.field-0 c.in_ok-check_graph_of.ensures
    c.if-not-branch.true)

pub returns : goal.returns
returns c = λ lines so_far. (
  after_header c.args.subject.now so_far.lines_are,
  graph_ended (question_of_subject c.args.subject.now) c.args.graph.now lines (codes "end") so_far refl
      (some_world c.args.subject.now c.graph.result.now c.args.graph.now c.graph.ensures.nodes c.graph.ensures.edges
      c.in_ok-check_graph_of.field-0 c.in_ok-check_graph_of.ensures
      c.if-not-branch.false so_far.of_names),
)
