-- What a judge of certificates stands at, line by line as bytes, and what it can judge.
use Rattle.std.{proofs.Common.{◌≡◌, inl, inr, ℕ, Bool, true, false, List, [], ◌∷◌, ◌++◌, Bor, Option, Some, map, refl, sym, ◌∙◌, ap, subst}, specs.Prelude.{◌↔◌, ⊤, MatchOption, codes}}
use Rattle.pc_common.specs.{declared.limits.TheConstants.{MAX_CERTIFICATE}, World.{Node}, Lines.{Line, line_words}}
use Rattle.pc_ground.specs.declared.row.Row.{Row}
use Rattle.line_judge.specs.{Texts.{HoldsRefused}, Feeds.{IsDecided}}
use Rattle.cert_check.specs.{Certificates.{Question}, RawLines.{RawBegins, RawStands}, Stages.{HasAdvanced, is_end}, Subjects.{question_of_subject, HasTree, IsSubject}}
use Rattle.cert_check.specs.{Judged.{CanJudge, CanJudgeNext, JudgedFirst, JudgedWhole, HasStepped}, Fed.{judge_view}}
use Rattle.cert_check.specs.declared.{subject.Subject.{Subject}, stage.Stage.{Stage}, judge.CertificateJudge.{CertificateJudge}}
use Rattle.cert_check.proofs.{Raws.{raw_begins}, RawStages.{raw_goes_on, raw_stuck, raw_done}}

-- no line after another is a first line
pub after_header : (s : Subject) {lines more : List Line} {l : Line} {text : List ℕ} → lines ≡ l ∷ more → CanJudgeNext s lines text
after_header s are none is = cc

-- a line that says observable is none that says unobservable
pub unlike : {text : List ℕ} → text ≡ codes "unobservable" → text ≡ codes "observable" → ⊥
unlike un seen = cc

pub has_tree : (s : Subject) {tree : Bor (List (Row Node))} → s.tree ≡ Some tree → HasTree s
has_tree s is = (let P : Option (Bor (List (Row Node))) → Type 0 = λ t. MatchOption t ⊥ (λ x. ⊤) in subst P (sym is) tt)

pub later_stepped : (s : Subject) {lines : List Line} {text : List ℕ} (new : Stage) (good : Bool) → CanJudgeNext s lines text
    → HasAdvanced (question_of_subject s) lines text new good → HasStepped s lines text new good
later_stepped s new true next goes = (next, goes)
later_stepped s new false next stuck = λ can. stuck

-- lines that can be judged can be with a line that can be after them
can_next : (s : Subject) (raws : List (List ℕ)) (text : List ℕ) (lines : List Line) → raws ≡ map (line_words s.names) lines
    → CanJudgeNext s lines text → CanJudge s raws → CanJudge s (raws ++ text ∷ [])
can_next s [] text [] are next can (rest, is) = (let first : text ≡ codes "unobservable" = cc in next refl first)
can_next s [] text (l ∷ ls) are next can says = cc
can_next s (r ∷ rs) text lines are next can (rest, is) =
    let first : r ≡ codes "unobservable" = cc in can (rs, ap (λ (t : List ℕ). t ∷ rs) first)

pub judged_goes : (s : Subject) (old next : Stage) (raws : List (List ℕ)) (text : List ℕ) (st : RawStands (question_of_subject s) old raws)
    → CanJudge s raws → (good : Bool) → good ≡ true → HasStepped s st.lines text next good
    → RawStands (question_of_subject s) next (raws ++ text ∷ []) × CanJudge s (raws ++ text ∷ [])
judged_goes s old next raws text st can true e (told, goes) =
    (raw_goes_on (question_of_subject s) old next raws text st goes, can_next s raws text st.lines st.are told can)
judged_goes s old next raws text st can false e stuck = cc

pub judged_refused : (s : Subject) (old next : Stage) (raws : List (List ℕ)) (text : List ℕ) (st : RawStands (question_of_subject s) old raws)
    (good : Bool) → good ≡ false → HasStepped s st.lines text next good → JudgedFirst s (raws ++ text ∷ []) → ⊥
judged_refused s old next raws text st true e went b = cc
judged_refused s old next raws text st false e stuck b = raw_stuck (question_of_subject s) old raws text st (stuck can) b.begins
  where
    can : CanJudgeNext s st.lines text
    can none is = b.can ([], ap (λ (rs : List (List ℕ)). rs ++ text ∷ []) (st.are ∙ ap (map (line_words s.names)) none) ∙ ap (λ (t : List ℕ). t ∷ []) is)

pub judged_done : (s : Subject) (stage : Stage) (raws : List (List ℕ)) → RawStands (question_of_subject s) stage raws → CanJudge s raws
    → (is_end stage ≡ true) ↔ JudgedWhole s raws
judged_done s stage raws st can =
    let done = raw_done (question_of_subject s) stage raws st in (λ e. record { whole = done.0 e; can = can }, λ w. done.1 w.whole)

judged_holds : (s : Subject) (text : List ℕ) → HoldsRefused (RawBegins (question_of_subject s)) text → HoldsRefused (JudgedFirst s) text
judged_holds s text h =
    record { lines = h.lines; rest = h.rest; are_lines = h.are_lines; text_is = h.text_is; bad = λ b. h.bad (raw_begins (question_of_subject s) h.lines b.begins) }

-- where what may follow changes nothing, it doesn't of what can be judged
pub own_decided : (q : Question) (s : Subject) → question_of_subject s ≡ q → (text all : List ℕ) → IsDecided (RawBegins q) MAX_CERTIFICATE text all
    → IsDecided (JudgedFirst s) MAX_CERTIFICATE text all
own_decided q s asks text all (inl past) = inl past
own_decided q s asks text all (inr holds) =
    let P : Question → Type 0 = λ p. HoldsRefused (RawBegins p) text in inr (judged_holds s text (subst P (sym asks) holds))

-- a judge that took no line
pub none_taken : (s : Subject) (j : CertificateJudge) → j.subject ≡ s → IsSubject s → RawStands (question_of_subject s) j.stage []
    → (judge_view j).stands []
none_taken s j same subject st =
    let P : Subject → Type 0 = λ t. IsSubject t × RawStands (question_of_subject t) j.stage [] × CanJudge t [] in
    subst P (sym same) (subject, st, λ says. no_line says.0 says.1)
  where
    no_line : (rest : List (List ℕ)) → [] ≡ codes "unobservable" ∷ rest → HasTree s
    no_line rest e = cc
