-- Laws of a judge of certificates: what it took, a first part of what begins well, and whole lines begin well.
use Rattle.std.{specs.Prelude.{ℕ, List, [], ◌++◌}, proofs.{Common.{sym, ◌∙◌, ap}, lemmas.List.{append-nil, append_assoc}}}
use Rattle.cert_check.specs.{Certificates.{whole}, Subjects.{question_of_subject}, RawLines.{RawStands}, Judged.{CanJudge, JudgedFirst, JudgedWhole}}
use Rattle.cert_check.specs.declared.{subject.Subject.{Subject}, stage.Stage.{Stage}}

pub judged_first : (s : Subject) (raws more : List (List ℕ)) → JudgedFirst s (raws ++ more) → JudgedFirst s raws
judged_first s raws more b = record {
  begins = record {
    more = more ++ b.begins.more;
    both = record {
      lines = b.begins.both.lines;
      are = sym (append_assoc raws more b.begins.more) ∙ b.begins.both.are;
      begins = b.begins.both.begins;
    };
  };
  can = λ says. b.can (says.0 ++ more, ap (λ (rs : List (List ℕ)). rs ++ more) says.1);
}

pub judged_taken : (s : Subject) (stage : Stage) (raws : List (List ℕ)) → RawStands (question_of_subject s) stage raws
    → CanJudge s raws → JudgedFirst s raws
judged_taken s stage raws st can = record {
  begins = record { more = []; both = record { lines = st.lines; are = append-nil raws ∙ st.are; begins = st.begins } };
  can = can;
}

pub judged_whole : (s : Subject) (raws : List (List ℕ)) → JudgedWhole s raws → JudgedFirst s raws
judged_whole s raws w = record {
  begins = record {
    more = [];
    both = record {
      lines = w.whole.lines;
      are = append-nil raws ∙ w.whole.are;
      begins = whole w.whole.verdict w.whole.certificate;
    };
  };
  can = w.can;
}
