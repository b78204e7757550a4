-- What a text is at its end.
use Rattle.std.proofs.Common.{◌≡◌, ℕ, zero, suc, ◌≤◌, ◌<◌, true, false, List, [], ◌∷◌, ◌++◌, map, length, refl, sym, ◌∙◌, ap, subst, arith, append_assoc}
use Rattle.std.{proofs.lemmas.List.{append-nil}, specs.Prelude.{All, codes}}
use Rattle.pc_common.specs.Lines.{Line, Verdict as PlainVerdict, observable, unobservable, second, end, line_words, lines_text, verdict_text}
use Rattle.pc_common.specs.declared.limits.TheConstants.{MAX_CERTIFICATE}
use Rattle.pc_ground.specs.NodeForm.{AreReadable}
use Rattle.line_judge.specs.{Texts.{text_of_lines, IsMadeOf, FirstLinesBegin, IsRefusedAt}, JudgedLines.{IsWhole}, Feeds.{IsRefusedBy}}
use Rattle.graph_text.proofs.WholeGraphs.{joined_lines}
use Rattle.cert_check.specs.{Certificates.{Question, tree_lines, IsCertificate, IsCertificateText}, Verified.{Verified, seen, unseen, too_long, refused}, Proper.{IsAsked}}
use Rattle.cert_check.specs.{Subjects.{question_of_subject, HasTree}, GraphBegins.{SaysUnobservable, IsUnobservableFirst}, Judged.{JudgedFirst, JudgedWhole}}
use Rattle.cert_check.specs.{Ends.{checked_of}, Stages.{is_end}, RawLines.{RawBegins, RawWhole, RawStands}, Fed.{judge_view}}
use Rattle.cert_check.specs.declared.{header.Verdict.TheVariants.{Observable, Unobservable}, checked.Checked.TheVariants.{Refused}, stage.Stage.{Stage}}
use Rattle.cert_check.specs.declared.{subject.Subject.{Subject}, judge.CertificateJudge.{CertificateJudge}}
use Rattle.cert_check.specs.declared.stage.Stage.TheVariants.{Start, SaidObservable, SaidUnobservable, Graph, Tree, Ended}
use Rattle.cert_check.proofs.{Raws.{raw_lines, raw_begins, raw_first, to_certificate}, Judged.{judged_done}, Words.{one_verdict}}
use Rattle.cert_check.proofs.Propers.{IsProper, proper_seen, proper_certificate}

-- a certificate's first line as bytes is its verdict
first_is : (q : Question) (v : PlainVerdict) (ls : List Line) → IsCertificate q v ls → (rest : List (List ℕ))
    × (map (line_words q.names) ls ≡ verdict_text v ∷ rest)
first_is q observable ls graph = (_, ap (map (line_words q.names)) graph.lines_are)
first_is q unobservable ls (v, tree) = (_, ap (map (line_words q.names)) tree.lines_are)

heads_same : {x y : List ℕ} {xs ys : List (List ℕ)} → x ∷ xs ≡ y ∷ ys → x ≡ y
heads_same e = cc

-- two questions' certificates of the same bytes are of one verdict
same_verdict : (q r : Question) (v w : PlainVerdict) (raws : List (List ℕ)) (ls ms : List Line) → raws ≡ map (line_words q.names) ls
    → raws ≡ map (line_words r.names) ms
    → IsCertificate q v ls → IsCertificate r w ms → v ≡ w
same_verdict q r v w raws ls ms is are c d =
    let one = first_is q v ls c in
    let other = first_is r w ms d in
    one_verdict v w (heads_same (sym one.1 ∙ sym is ∙ are ∙ other.1))

of_verdict : (q : Question) (text : List ℕ) (v w : PlainVerdict) → v ≡ w → IsCertificateText q w text → IsCertificateText q v text
of_verdict q text v w same c = (let P : PlainVerdict → Type 0 = λ u. IsCertificateText q u text in subst P (sym same) c)

ended_verified : (q r : Question) (text : List ℕ) → length text ≤ MAX_CERTIFICATE → (made : IsMadeOf (RawWhole q) text) → (stage : Stage)
    → RawStands r stage made.lines → is_end stage ≡ true → Verified q text (checked_of stage)
ended_verified q r text short made Start st e = absurd (no e)
  where
    no : false ≡ true → ⊥
    no f = cc
ended_verified q r text short made SaidObservable st e = cc
ended_verified q r text short made (SaidUnobservable tree) st e = cc
ended_verified q r text short made (Graph g) st e = cc
ended_verified q r text short made (Tree o) st e = cc
ended_verified q r text short made (Ended Observable) st e =
    let w = made.accepted in
    let c = to_certificate q text made in
    seen short (of_verdict q text observable w.verdict
    (same_verdict r q observable w.verdict made.lines st.lines w.lines st.are w.are st.stands w.certificate) c)
ended_verified q r text short made (Ended Unobservable) st e =
    let w = made.accepted in
    let c = to_certificate q text made in
    unseen short (of_verdict q text unobservable w.verdict
    (same_verdict r q unobservable w.verdict made.lines st.lines w.lines st.are w.are st.stands w.certificate) c)

pub whole_verified : (q : Question) (start judge : CertificateJudge) → question_of_subject start.subject ≡ q → (text : List ℕ)
    → length text ≤ MAX_CERTIFICATE → IsWhole judge_view start text judge → Verified q text (checked_of judge.stage)
whole_verified q start judge asks text short is_whole =
    let own = question_of_subject start.subject in
    let P : Question → Type 0 = λ p. Verified p text (checked_of judge.stage) in
    let made = is_whole.made in
    let st = is_whole.stand in
    let ended = (judged_done judge.subject judge.stage made.lines st.1 st.2).1 ((is_whole.alike.same_whole made.lines).0 made.accepted) in
    subst P asks (ended_verified own (question_of_subject judge.subject) text short (all_made start.subject text made) judge.stage st.1 ended)
  where
    all_made : (s : Subject) (text : List ℕ) → IsMadeOf (JudgedWhole s) text → IsMadeOf (RawWhole (question_of_subject s)) text
    all_made s text made =
        record { lines = made.lines; are_lines = made.are_lines; text_is = made.text_is; accepted = made.accepted.whole }

-- the first lines of a text that does not say unobservable don't either
lines_say : (lines : List (List ℕ)) (rest text : List ℕ) → text ≡ text_of_lines lines ++ rest → IsUnobservableFirst lines → SaysUnobservable text
lines_say lines rest text is says = (
  text_of_lines says.0 ++ rest,
  is ∙ ap (λ (ls : List (List ℕ)). text_of_lines ls ++ rest) says.1 ∙ append_assoc (codes "unobservable\n") (text_of_lines says.0) rest,
)

-- the line that the judge refuses is the first that doesn't begin well
to_refused : (s : Subject) (text : List ℕ) (n : ℕ) → (SaysUnobservable text → HasTree s) → IsRefusedAt (JudgedFirst s) (JudgedWhole s) text n
    → IsRefusedAt (RawBegins (question_of_subject s)) (RawWhole (question_of_subject s)) text n
to_refused s text n has r = record {
  no_whole = λ made. r.no_whole (record {
    lines = made.lines;
    are_lines = made.are_lines;
    text_is = made.text_is;
    accepted = record {
      whole = made.accepted;
      can = λ says. has (lines_say made.lines [] text (made.text_is ∙ sym (append-nil (text_of_lines made.lines))) says);
    };
  });
  before = λ k less. wide k (r.before k less);
  here = λ f. r.here (record {
    lines = f.lines;
    rest = f.rest;
    count = f.count;
    are_lines = f.are_lines;
    text_is = f.text_is;
    begin = record { begins = raw_first (question_of_subject s) f.lines f.begin; can = λ says. has (lines_say f.lines f.rest text f.text_is says) };
  });
}
  where
    wide : (k : ℕ) → FirstLinesBegin (JudgedFirst s) text k → FirstLinesBegin (RawBegins (question_of_subject s)) text k
    wide k f = record {
      lines = f.lines;
      rest = f.rest;
      count = f.count;
      are_lines = f.are_lines;
      text_is = f.text_is;
      begin = raw_begins (question_of_subject s) f.lines f.begin.begins;
    }

-- the lines of a certificate can be read, where a refutation's nodes can
certificate_proper : (q : Question) (text : List ℕ) → (SaysUnobservable text → IsAsked q) → (v : PlainVerdict) (c : IsCertificateText q v text)
    → All (IsProper q.names) c.lines
certificate_proper q text asked observable c = proper_seen q c.lines c.certificate
certificate_proper q text asked unobservable c =
    let tree = c.certificate.1 in
    let says : SaysUnobservable text = (
      lines_text q.names (second unobservable q.expectation ∷ (tree_lines c.certificate.0 tree.steps ++ end ∷ [])),
      c.text_is ∙ ap (lines_text q.names) tree.lines_are,
    ) in
    proper_certificate q (asked says) unobservable c.lines c.certificate

-- a certificate's text is made of its lines
from_certificate : (q : Question) → AreReadable q.names → (text : List ℕ) → (SaysUnobservable text → IsAsked q) → (v : PlainVerdict)
    → IsCertificateText q v text → IsMadeOf (RawWhole q) text
from_certificate q readable text asked v c = record {
  lines = map (line_words q.names) c.lines;
  are_lines = raw_lines q.names readable c.lines (certificate_proper q text asked v c);
  text_is = c.text_is ∙ sym (joined_lines q.names c.lines);
  accepted = record { verdict = v; lines = c.lines; are = refl; certificate = c.certificate };
}

pub refused_verified : (q : Question) → AreReadable q.names → (start : CertificateJudge) → question_of_subject start.subject ≡ q → (text : List ℕ)
    → (SaysUnobservable text → HasTree start.subject × IsAsked q) → (number : ℕ)
    → IsRefusedBy (judge_view start).begins (judge_view start).whole MAX_CERTIFICATE text number → Verified q text (Refused number)
refused_verified q readable start asks text has zero by = too_long (by.past refl)
refused_verified q readable start asks text has (suc k) by =
    let own = question_of_subject start.subject in
    let P : Question → Type 0 = λ p. IsRefusedAt (RawBegins p) (RawWhole p) text (suc k) in
    let some : 0 < suc k = omega arith in
    let at = subst P asks (to_refused start.subject text (suc k) (λ says. (has says).0) (by.line some)) in
    refused (suc k) (by.within some) (λ v c. at.no_whole (from_certificate q readable text (λ says. (has says).1) v c)) at
