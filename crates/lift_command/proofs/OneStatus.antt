-- All that a text is by the rules of version 1 has one status.
use Rattle.std.proofs.Common.{◌≡◌, ℕ, List, refl, sym, ap}
use Rattle.pc_common.specs.{Case.{Case}, declared.status.Status.TheVariants.{Observable as is_observable, Unobservable as is_unobservable, Done, CertRefused}}
use Rattle.pc_syntax.specs.Written.{WrittenModel}
use Rattle.cert_check.specs.{Certificates.{Question}, Ones.{IsOne, shown}, declared.one.One.{One, TheVariants.{Graph, Tree, Refused as refused_at}}}
use Rattle.cert_check.proofs.OneTexts.{only_one}
use Rattle.command_base.{specs.{Questions.{question_by}, VerdictStatus.{IsTrueStatus}}, proofs.CertificateTruth.{graph_observable}}
use Rattle.lifted_check.specs.LiftedTexts.{Question as LiftedQuestion}
use Rattle.lift_command.specs.{declared.lifting.FoundLift.{FoundLift, TheVariants.{Observable, Text, Refused}}, Lifts.{IsLiftOf}, LiftTexts.{lift_status}}
use Rattle.lift_command.specs.LiftAnswers.{one_status, IsStatusOf}

pub same_status : (q : Question) (text : List ℕ) (a b : One) → IsOne q text a → IsOne q text b → one_status b ≡ one_status a
same_status q text Graph b x y = ap one_status (only_one q text Graph x tt b y)
same_status q text (refused_at n) b x y = ap one_status (only_one q text (refused_at n) x tt b y)
same_status q text (Tree s) Graph x y = sym (ap one_status (only_one q text Graph y tt (Tree s) x))
same_status q text (Tree s) (Tree t) x y = refl
same_status q text (Tree s) (refused_at n) x y = sym (ap one_status (only_one q text (refused_at n) y tt (Tree s) x))

-- the status of what a text is made into is due
pub status_of : (q : Question) (l : LiftedQuestion) (text : List ℕ) (found : FoundLift) → IsLiftOf q l text found → IsStatusOf q text (lift_status found)
status_of q l text Observable is = record { found = Graph; is = is; only = λ other y. same_status q text Graph other is y; status_is = refl }
status_of q l text (Text t) is = record { found = Tree is.0; is = is.1; only = λ other y. same_status q text (Tree is.0) other is.1 y; status_is = refl }
status_of q l text (Refused n) is = record { found = refused_at n; is = is; only = λ other y. same_status q text (refused_at n) other is y; status_is = refl }

-- it says of the outcome what holds
observable_unobservable : is_observable ≡ is_unobservable → ⊥
observable_unobservable e = cc

done_observable : Done ≡ is_observable → ⊥
done_observable e = cc

done_unobservable : Done ≡ is_unobservable → ⊥
done_unobservable e = cc

refused_observable : CertRefused ≡ is_observable → ⊥
refused_observable e = cc

refused_unobservable : CertRefused ≡ is_unobservable → ⊥
refused_unobservable e = cc

pub lift_true_status : (m : WrittenModel) (c : Case) (l : LiftedQuestion) (text : List ℕ) (found : FoundLift) → IsLiftOf (question_by m c) l text found
    → IsTrueStatus m c (lift_status found)
lift_true_status m c l text Observable (shown short graph) = (λ e. graph_observable m c text graph, λ e. absurd (observable_unobservable e))
lift_true_status m c l text (Text t) is = (λ e. absurd (done_observable e), λ e. absurd (done_unobservable e))
lift_true_status m c l text (Refused n) is = (λ e. absurd (refused_observable e), λ e. absurd (refused_unobservable e))
