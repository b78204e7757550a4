-- The question that a front asks, and that its parts ask.
use Rattle.pc_syntax.specs.Closed.{closed_satisfies}
use Rattle.pc_ground.specs.{declared.{front.Front.{Front}, parts.Parts.{Parts}}, NodeForm.{names_of, names_of_parts}, GroundTree.{closed_ground_tree}}
use Rattle.pc_ground.specs.Stages.{plain_axioms}
use Rattle.cert_check.specs.Certificates.{Question}

-- a certificate of the front's test on its model
abbrev pub question_of : Front → Question
question_of front = record {
  names = names_of front;
  expectation = front.case.expectation;
  tree = closed_ground_tree front.case (plain_axioms front.axioms);
  satisfied = closed_satisfies (plain_axioms front.axioms) front.case;
}

-- the same of parts: it speaks of their ground tree, which need not be built
abbrev pub question_of_parts : Parts → Question
question_of_parts parts = record {
  names = names_of_parts parts;
  expectation = parts.case.expectation;
  tree = closed_ground_tree parts.case (plain_axioms parts.axioms);
  satisfied = closed_satisfies (plain_axioms parts.axioms) parts.case;
}
