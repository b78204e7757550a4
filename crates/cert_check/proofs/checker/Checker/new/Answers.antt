use Rattle.std.proofs.Common.{ap, sym, subst, ◌∙◌}
use Rattle.cert_check.specs.{Subjects.{question_of_subject, HasTree}, declared.subject.Subject.{Subject}}
use Rattle.cert_check.proofs.{Judged.{none_taken}}
use Rattle.cert_check.proofs.checker.Checker.new.Goals as goal

pub new-requires-clause-stands : goal.new-requires-clause-stands
new-requires-clause-stands c =
    none_taken c.of.result c.new-judge.result c.new-judge.ensures.subject c.of.ensures.subject c.new-judge.ensures.stands

pub returns : goal.returns
returns c = record {
  start = c.new-judge.result;
  asks = ap question_of_subject c.new-judge.ensures.subject ∙ c.of.ensures.asks;
  asked = c.of.ensures.asked;
  tree = (let P : Subject → Type 0 = λ s. HasTree s in subst P (sym c.new-judge.ensures.subject) c.of.ensures.tree);
  taken = c.new.ensures;
}
