-- What certificates are judged against: what a subject asks, and what its names and its tree keep.
use Rattle.std.specs.Prelude.{⊤, MatchOption}
use Rattle.pc_syntax.specs.Closed.{closed_satisfies}
use Rattle.pc_ground.specs.{NodeForm.{AreReadable}, GroundTree.{closed_ground_tree}, Stages.{plain_axioms}}
use Rattle.cert_check.specs.{Certificates.{Question}, Proper.{IsGrounded}, declared.subject.Subject.{Subject}}

-- a certificate of its test on its model; it speaks of the ground tree, which need not be there
abbrev pub question_of_subject : Subject → Question
question_of_subject s = record {
  names = s.names;
  expectation = s.case.now.expectation;
  tree = closed_ground_tree s.case.now (plain_axioms s.axioms.now);
  satisfied = closed_satisfies (plain_axioms s.axioms.now) s.case.now;
}

-- the ground tree is there
abbrev pub HasTree : Subject → Type 0
HasTree s = MatchOption s.tree ⊥ (λ tree. ⊤)

-- no two nodes have one text, and a tree that is there is the question's
pub record IsSubject (s : Subject) : Type 0 where
  pub readable : AreReadable s.names
  pub grounded : MatchOption s.tree ⊤ (λ tree. IsGrounded (question_of_subject s) tree.now)
