use Rattle.std.proofs.Common.{ap, subst, ◌∙◌}
use Rattle.pc_ground.specs.NodeForm.{AreReadable}
use Rattle.cert_check.{specs.{Certificates.{Question}, Subjects.{question_of_subject}}, proofs.Judged.{none_taken}}
use Rattle.cert_check.proofs.graph_checker.GraphChecker.new.Goals as goal

pub new-requires-clause-stands : goal.new-requires-clause-stands
new-requires-clause-stands c =
    none_taken c.of_parts.result c.new-judge.result c.new-judge.ensures.subject c.of_parts.ensures.subject c.new-judge.ensures.stands

pub returns : goal.returns
returns c = record {
  start = c.new-judge.result;
  asks = ap question_of_subject c.new-judge.ensures.subject ∙ c.of_parts.ensures.asks;
  readable = (let P : Question → Type 0 = λ q. AreReadable q.names in subst P c.of_parts.ensures.asks c.of_parts.ensures.subject.readable);
  taken = c.new.ensures;
}
