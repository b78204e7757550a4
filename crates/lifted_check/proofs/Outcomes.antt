-- What the answer to a text says: which text it is, and that a lifted refutation leaves no world.
use Rattle.std.{proofs.Common.{◌≡◌, ℕ, ◌≤◌, List, [], ◌∷◌, zero, suc, refl, subst, arith, length}, specs.Prelude.{IsTrue}}
use Rattle.pc_common.specs.{World.{Node, World, IsWorld}, declared.limits.TheConstants.{MAX_CERTIFICATE}}
use Rattle.pc_syntax.specs.Closed.{closed_satisfies}
use Rattle.lifted_facts.{specs.PlainFacts.{root}, proofs.Sound.{no_world}}
use Rattle.line_judge.specs.{Texts.{IsMadeOf}, JudgedLines.{IsWhole}, declared.feed.Finished.{Finished}}
use Rattle.line_judge.specs.{declared.feed.Finished.TheVariants.{Whole as a_whole_text, Refused as refused_at}, Feeds.{IsRefusedBy, IsAnswer}}
use Rattle.lifted_check.specs.LiftedTexts.{Question, IsLiftedText, BeginsLifted}
use Rattle.lifted_check.specs.Fed.{IsFound, unseen, too_long, refused, SaysOutcome, lifted_of, judge_question, judge_view}
use Rattle.lifted_check.specs.declared.{judge.LiftedJudge.{LiftedJudge}, lifted.Lifted.{Lifted, TheVariants.{Unobservable, Refused}}}
use Rattle.lifted_check.proofs.LineRuns.{steps_of}

pub text_forbids : (q : Question) (text : List ℕ) → IsMadeOf (IsLiftedText q) text → (w : World Node) → IsWorld w
    → IsTrue (closed_satisfies q.axioms q.case w) → ⊥
text_forbids q text made w is_world satisfied =
    let t = made.accepted in
    let r = steps_of q.case t.steps (root q.axioms ∷ []) [] t.run in
    no_world q.case w is_world q.axioms r.0 r.1 satisfied

pub outcome_holds : (q : Question) (text : List ℕ) (found : Lifted) → IsFound q text found → SaysOutcome q found
outcome_holds q text found (unseen short made) = text_forbids q text made
outcome_holds q text found (too_long long) = tt
outcome_holds q text found (refused n short is) = tt

pub whole_found : (q : Question) (start judge : LiftedJudge) → judge_question start ≡ q → (text : List ℕ) → length text ≤ MAX_CERTIFICATE
    → IsWhole judge_view start text judge → IsFound q text Unobservable
whole_found q start judge asks text short w =
    unseen short (let P : Question → Type 0 = λ p. IsMadeOf (IsLiftedText p) text in subst P asks w.made)

pub refused_found : (q : Question) (start : LiftedJudge) → judge_question start ≡ q → (text : List ℕ) (n : ℕ)
    → IsRefusedBy (judge_view start).begins (judge_view start).whole MAX_CERTIFICATE text n → IsFound q text (Refused n)
refused_found q start asks text n r =
    (let P : Question → Type 0 = λ p. IsRefusedBy (BeginsLifted p) (IsLiftedText p) MAX_CERTIFICATE text n in go n (subst P asks r))
  where
    go : (n : ℕ) → IsRefusedBy (BeginsLifted q) (IsLiftedText q) MAX_CERTIFICATE text n → IsFound q text (Refused n)
    go zero r = too_long (r.past refl)
    go (suc n) r = refused (suc n) (r.within (omega arith)) (r.line (omega arith))

pub finished_found : (q : Question) (start : LiftedJudge) → judge_question start ≡ q → (text : List ℕ) (finished : Finished LiftedJudge)
    → IsAnswer judge_view start MAX_CERTIFICATE text finished → IsFound q text (lifted_of finished)
finished_found q start asks text (a_whole_text judge) end = whole_found q start judge asks text end.0 end.1
finished_found q start asks text (refused_at n) end = refused_found q start asks text n end
