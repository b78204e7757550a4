use Rattle.std.{proofs.Common.{◌≡◌, List, Bor, Option, refl, subst}, specs.Prelude.{MatchOption, ⊤}}
use Rattle.pc_common.specs.{World.{Node}, Lines.{verdict_text, observable, unobservable}}
use Rattle.pc_ground.specs.declared.row.Row.{Row}
use Rattle.cert_check.specs.{Proper.{IsGrounded}, Subjects.{question_of_subject}, declared.stage.Stage.TheVariants.{SaidObservable, SaidUnobservable}}
use Rattle.cert_check.proofs.{Advances.{start_goes}, Judged.{has_tree, unlike}}
use Rattle.cert_check.proofs.next.after_start.Goals as goal

pub returns-in-Observable : goal.returns-in-Observable
returns-in-Observable c = λ subject lines none.
    let text : c.args.line.now ≡ verdict_text observable = rw c.in-Observable.is at c.in_ok-verdict_of.ensures in
    (λ first says. absurd (unlike says text), start_goes (question_of_subject c.args.subject.now) lines c.args.line.now observable SaidObservable none text refl)

pub returns-in-Some : goal.returns-in-Some
returns-in-Some c = λ subject lines none.
    let s = c.args.subject.now in
    let tree = c.in-Some.tree in
    let text : c.args.line.now ≡ verdict_text unobservable = rw c.in-Unobservable.is at c.in_ok-verdict_of.ensures in
    let P : Option (Bor (List (Row Node))) → Type 0 = λ t. MatchOption t ⊤ (λ x. IsGrounded (question_of_subject s) x.now) in (
      λ first says. has_tree s c.in-Some.is,
      start_goes (question_of_subject s) lines c.args.line.now unobservable (SaidUnobservable tree) none text (subst P c.in-Some.is subject.grounded, refl),
    )
