-- A text is one thing to a model and a case, and what it is says whether the outcome is observable.
use Rattle.std.proofs.Common.{◌≡◌, ℕ, ◌<◌, ◌+◌, List, [], ◌++◌, Option, Some, None, length, refl, sym, ◌∙◌, ap, arith, length-append}
use Rattle.pc_common.specs.{Case.{Case}, declared.limits.TheConstants.{MAX_CERTIFICATE}}
use Rattle.pc_common.specs.declared.status.Status.TheVariants.{Observable as is_observable, Unobservable as is_unobservable}
use Rattle.pc_syntax.specs.{Written.{WrittenModel}, Observable.{Observable}, ModelFault.{first_model_fault}}
use Rattle.pc_ground.proofs.KeptTrees.{no_name_fault}
use Rattle.pc_front.proofs.FrontLaws.{satisfied_alike}
use Rattle.line_judge.specs.Texts.{IsMadeOf}
use Rattle.lifted_check.specs.{LiftedTexts.{Question, IsLiftedText, BeginsLifted}, Fed.{IsFound, unseen, too_long, refused, IsFed}}
use Rattle.lifted_check.{specs.declared.{checker.LiftedChecker.{LiftedChecker}, lifted.Lifted.{Lifted, TheVariants.{Refused}}}, proofs.Outcomes.{text_forbids}}
use Rattle.command_base.specs.{VerdictStatus.{IsTrueStatus}, LiftedQuestions.{lifted_question}}
use Rattle.verify_command.specs.{LiftedTexts.{lifted_status}, Reading.{TookFile}}
use Rattle.verify_command.proofs.FirstBytes.{refused_seen, refused_unseen, one_line, both_lengths, file_is}

one_verdict : is_unobservable ≡ is_observable → ⊥
one_verdict e = cc

-- a lifted refutation of a model without faults leaves no world
unobservable : (m : WrittenModel) (c : Case) → first_model_fault m ≡ None → (text : List ℕ) → IsMadeOf (IsLiftedText (lifted_question m c)) text
    → Observable m c → ⊥
unobservable m c faultless text made (w, of_both, satisfied) =
    text_forbids (lifted_question m c) text made w of_both.0 (sym (satisfied_alike m (no_name_fault m faultless) c w) ∙ satisfied)

pub found_true : (m : WrittenModel) (c : Case) → first_model_fault m ≡ None → (text : List ℕ) (found : Lifted) → IsFound (lifted_question m c) text found
    → IsTrueStatus m c (lifted_status found)
found_true m c faultless text found (unseen short made) = (λ e. absurd (one_verdict e), λ e. unobservable m c faultless text made)
found_true m c faultless text found (too_long long) = (λ e. absurd (refused_seen e), λ e. absurd (refused_unseen e))
found_true m c faultless text found (refused n short is) = (λ e. absurd (refused_seen e), λ e. absurd (refused_unseen e))

-- a text is one thing
pub one_found : (q : Question) (text : List ℕ) (a b : Lifted) → IsFound q text a → IsFound q text b → a ≡ b
one_found q text a b (unseen short x) (unseen short2 y) = refl
one_found q text a b (unseen short x) (too_long long) = absurd (both_lengths text short long)
one_found q text a b (unseen short x) (refused n short2 y) = absurd (y.no_whole x)
one_found q text a b (too_long long) (unseen short y) = absurd (both_lengths text short long)
one_found q text a b (too_long long) (too_long long2) = refl
one_found q text a b (too_long long) (refused n short y) = absurd (both_lengths text short long)
one_found q text a b (refused n short x) (unseen short2 y) = absurd (x.no_whole y)
one_found q text a b (refused n short x) (too_long long) = absurd (both_lengths text short long)
one_found q text a b (refused n short x) (refused k short2 y) = ap Refused (one_line (BeginsLifted q) (IsLiftedText q) text n k x y)

-- what the first bytes past the limit are, all of the file is
pub found_past : (q : Question) (text rest : List ℕ) (found : Lifted) → MAX_CERTIFICATE < length text → IsFound q text found → IsFound q (text ++ rest) found
found_past q text rest found long (unseen short x) = absurd (both_lengths text short long)
found_past q text rest found long (refused n short x) = absurd (both_lengths text short long)
found_past q text rest found long (too_long long2) = too_long (let a = length-append text rest in omega (arith, a, long))

-- a checker of a question that took nothing before, and then a file
pub file_found : {old new : LiftedChecker} {q : Question} {held : Option (List ℕ)} {after : List ℕ} (found : Lifted)
    → IsFed old q [] → TookFile old new held after
    → ((text : List ℕ) → IsFed new q text → IsFound q text found) → (bytes : List ℕ) × (held ≡ Some bytes) × IsFound q bytes found
file_found {q = q} {after = after} found fed file finish =
    let first = file.first in
    let here = finish first.bytes (first.took q [] fed) in (
      file.whole,
      file.held_is,
      file_is (λ t. IsFound q t found) first.bytes first.are_first first.enough here (λ long. found_past q first.bytes after found long here),
    )
