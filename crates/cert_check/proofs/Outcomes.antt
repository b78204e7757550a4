-- What an answer says of the outcome holds.
use Rattle.std.proofs.Common.{List, ℕ, sym, ◌∙◌}
use Rattle.pc_ground.{specs.{declared.front.Front.{Front}, GroundTree.{closed_ground_tree}, Stages.{plain_axioms}}, proofs.Refuted.{refutation_sound}}
use Rattle.pc_ground.proofs.UnfoldedTruth.{closed_ground_tree_true}
use Rattle.cert_check.specs.{Outcomes.{SaysOutcome}, Questions.{question_of}, Verified.{Verified, seen, unseen}, declared.checked.Checked.{Checked}}
use Rattle.cert_check.specs.declared.checked.Checked.TheVariants.{Observable, Unobservable, Refused}

pub outcome_holds : (front : Front) (text : List ℕ) (checked : Checked) → Verified (question_of front) text checked → SaysOutcome front checked
outcome_holds front text Observable (seen short c) = (c.certificate.world, c.certificate.of_both, c.certificate.satisfied)
outcome_holds front text Unobservable (unseen short c) = λ w is_world is.
    let tree = c.certificate.1 in
    refutation_sound c.certificate.0 (closed_ground_tree front.case (plain_axioms front.axioms)) tree.steps tree.refutes w is_world
    (sym (closed_ground_tree_true front.case (plain_axioms front.axioms) w) ∙ is)
outcome_holds front text (Refused n) verified = tt
