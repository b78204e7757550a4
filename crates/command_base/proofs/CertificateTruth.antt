-- What the two certificates say of the outcome.
use Rattle.std.proofs.Common.{ℕ, List, sym, ◌∙◌, subst}
use Rattle.pc_common.specs.{Case.{Case}, Lines.{observable, unobservable}}
use Rattle.pc_syntax.specs.{Written.{WrittenModel}, Observable.{Observable, IsWorldOf}}
use Rattle.pc_ground.{specs.GroundTree.{ground_tree}, proofs.{UnfoldedTruth.{ground_tree_true}, Refuted.{refutation_sound}}}
use Rattle.cert_check.specs.Certificates.{IsCertificateText}
use Rattle.command_base.{specs.Questions.{question_by}, proofs.AskedAlike.{numbers_same}}

pub graph_observable : (m : WrittenModel) (c : Case) (text : List ℕ) → IsCertificateText (question_by m c) observable text → Observable m c
graph_observable m c text t =
    let g = t.certificate in
    let P : List ℕ → Type 0 = λ ns. IsWorldOf ns c.ops g.world in (g.world, subst P (numbers_same m.stages) g.of_both, g.satisfied)

pub tree_unobservable : (m : WrittenModel) (c : Case) (text : List ℕ) → IsCertificateText (question_by m c) unobservable text → Observable m c → ⊥
tree_unobservable m c text t (w, of_both, satisfied) =
    let r = t.certificate.1 in
    refutation_sound t.certificate.0 (ground_tree m c) r.steps r.refutes w of_both.0 (sym (ground_tree_true m c w) ∙ satisfied)
