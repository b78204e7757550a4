-- A text is one thing to a model and a case, and what it is says whether the outcome is observable.
use Rattle.std.proofs.Common.{◌≡◌, ℕ, ◌<◌, ◌+◌, List, [], ◌++◌, length, refl, sym, ap, arith, length-append}
use Rattle.pc_common.specs.{Case.{Case}, declared.status.Status.TheVariants.{Observable as is_observable, Unobservable as is_unobservable}}
use Rattle.pc_common.specs.{declared.limits.TheConstants.{MAX_CERTIFICATE}, Lines.{observable, unobservable}}
use Rattle.pc_syntax.specs.Written.{WrittenModel}
use Rattle.cert_check.specs.{Certificates.{Question}, RawLines.{RawBegins, RawWhole}, Verified.{Verified, seen, unseen, too_long, refused}}
use Rattle.cert_check.specs.declared.checked.Checked.{Checked, TheVariants.{Refused}}
use Rattle.command_base.specs.{Questions.{question_by}, CheckedTexts.{checked_status}, Feeding.{TookFirst}, VerdictStatus.{IsTrueStatus}}
use Rattle.command_base.proofs.CertificateTruth.{graph_observable, tree_unobservable}
use Rattle.verify_command.proofs.FirstBytes.{refused_seen, refused_unseen, one_line, both_lengths, file_is}

one_verdict : is_observable ≡ is_unobservable → ⊥
one_verdict e = cc

pub verified_true : (m : WrittenModel) (c : Case) (text : List ℕ) (found : Checked) → Verified (question_by m c) text found
    → IsTrueStatus m c (checked_status found)
verified_true m c text found (seen short graph) = (λ e. graph_observable m c text graph, λ e. absurd (one_verdict e))
verified_true m c text found (unseen short tree) = (λ e. absurd (one_verdict (sym e)), λ e. tree_unobservable m c text tree)
verified_true m c text found (too_long long) = (λ e. absurd (refused_seen e), λ e. absurd (refused_unseen e))
verified_true m c text found (refused n short none is) = (λ e. absurd (refused_seen e), λ e. absurd (refused_unseen e))

-- a text is one thing
pub one_found : (m : WrittenModel) (c : Case) (text : List ℕ) (a b : Checked) → Verified (question_by m c) text a → Verified (question_by m c) text b → a ≡ b
one_found m c text a b (seen short x) (seen short2 y) = refl
one_found m c text a b (seen short x) (unseen short2 y) = absurd (tree_unobservable m c text y (graph_observable m c text x))
one_found m c text a b (seen short x) (too_long long) = absurd (both_lengths text short long)
one_found m c text a b (seen short x) (refused n short2 none y) = absurd (none observable x)
one_found m c text a b (unseen short x) (seen short2 y) = absurd (tree_unobservable m c text x (graph_observable m c text y))
one_found m c text a b (unseen short x) (unseen short2 y) = refl
one_found m c text a b (unseen short x) (too_long long) = absurd (both_lengths text short long)
one_found m c text a b (unseen short x) (refused n short2 none y) = absurd (none unobservable x)
one_found m c text a b (too_long long) (seen short y) = absurd (both_lengths text short long)
one_found m c text a b (too_long long) (unseen short y) = absurd (both_lengths text short long)
one_found m c text a b (too_long long) (too_long long2) = refl
one_found m c text a b (too_long long) (refused n short none y) = absurd (both_lengths text short long)
one_found m c text a b (refused n short none x) (seen short2 y) = absurd (none observable y)
one_found m c text a b (refused n short none x) (unseen short2 y) = absurd (none unobservable y)
one_found m c text a b (refused n short none x) (too_long long) = absurd (both_lengths text short long)
one_found m c text a b (refused n short none x) (refused k short2 other y) =
    ap Refused (one_line (RawBegins (question_by m c)) (RawWhole (question_by m c)) text n k x y)

-- what the first bytes past the limit are, all of the file is
pub verified_past : (q : Question) (text rest : List ℕ) (found : Checked) → MAX_CERTIFICATE < length text → Verified q text found
    → Verified q (text ++ rest) found
verified_past q text rest found long (seen short x) = absurd (both_lengths text short long)
verified_past q text rest found long (unseen short x) = absurd (both_lengths text short long)
verified_past q text rest found long (refused n short none x) = absurd (both_lengths text short long)
verified_past q text rest found long (too_long long2) = too_long (let a = length-append text rest in omega (arith, a, long))

-- a checker of a question that took nothing before, and then a file: what it finds of first bytes, the file is
pub file_verified : {C : Type 0} (is_fed : C → Question → List ℕ → Type 0) {old new : C} {q : Question} {file after : List ℕ} (found : Checked)
    → is_fed old q []
    → TookFirst is_fed old new (MAX_CERTIFICATE + 1) file after
    → ((text rest : List ℕ) → file ≡ text ++ rest → is_fed new q text → Verified q text found) → Verified q file found
file_verified is_fed {q = q} {file = file} {after = after} found fed first finish =
    let here = finish first.bytes after first.are_first (first.took q [] fed) in
    file_is (λ t. Verified q t found) first.bytes first.are_first first.enough here (λ long. verified_past q first.bytes after found long here)
