-- What a text is by the rules of version 1, from what it is by those of both versions.
use Rattle.std.proofs.Common.{◌≡◌, ◌≤◌, ◌<◌, ◌⊎◌, inl, inr, ℕ, Bool, true, false, ◌==◌, List, [], ◌∷◌, ◌++◌, map, length, refl, sym, ◌∙◌, ap, subst, arith, append_assoc}
use Rattle.std.{proofs.lemmas.{List.{append-nil}, Bool.{cases_order}}, specs.Prelude.{codes}}
use Rattle.pc_common.specs.{World.{Node}, Steps.{Step}, declared.limits.TheConstants.{MAX_CERTIFICATE}}
use Rattle.pc_common.specs.Lines.{Line, Verdict, observable, unobservable, verdict, second, version_two, step, end, line_words, line_text, lines_text, verdict_text, second_text}
use Rattle.pc_ground.specs.declared.version.Version.{Version, TheVariants.{One as version_one, Two}}
use Rattle.line_judge.{specs.Texts.{text_of_lines, IsMadeOf, FirstLinesBegin, IsRefusedAt}, proofs.Refusals.{refused_at_line}}
use Rattle.graph_text.proofs.{WholeGraphs.{joined_lines}, Spaces.{lacking_on_line}}
use Rattle.cert_check.specs.{Certificates.{Question, header, certificate_lines, IsTreeCertificate, IsCertificateText}, Proper.{IsAsked}}
use Rattle.cert_check.specs.{RawLines.{RawBegins, RawWhole}, Verified.{Verified, seen, unseen, too_long, refused}}
use Rattle.cert_check.specs.Ones.{IsCertificateOne, BeginsOne, one_header, RawBeginsOne, RawWholeOne, IsTreeText, IsOne, shown, refuted, one_too_long, one_refused}
use Rattle.cert_check.specs.{StepTexts.{header_text, SaysTwo}, declared.checked.Checked.TheVariants.{Observable, Unobservable, Refused as refused_at}}
use Rattle.cert_check.{specs.declared.one.One.{One, TheVariants.{Graph, Tree, Refused}}, proofs.{Propers.{proper_header, proper_certificate}, Raws.{raw_lines}}}
use Rattle.cert_check.proofs.OneLines.{certificate_wide, HasTwo, one_or_two, raw_one_wide, raw_whole_wide, raw_one_first, raw_one_whole, raw_two_stuck}

-- the header of a refutation and what stands after it, as a text
pub header_lines : (q : Question) (ls : List Line) → lines_text q.names (header q unobservable ++ ls) ≡ header_text q.expectation ++ lines_text q.names ls
header_lines q ls =
    sym (append_assoc (line_text q.names (verdict unobservable)) (line_text q.names (second unobservable q.expectation)) (lines_text q.names ls))

says_two : (q : Question) (ls : List Line) (rest text : List ℕ) → HasTwo q ls → text ≡ lines_text q.names ls ++ rest → SaysTwo q.expectation text
says_two q ls rest text two is = (
  lines_text q.names two.more ++ rest,
  is ∙ ap (λ (xs : List Line). lines_text q.names xs ++ rest) two.are
      ∙ ap (λ (t : List ℕ). t ++ rest) (header_lines q (version_two ∷ two.more))
      ∙ append_assoc (header_text q.expectation) (lines_text q.names (version_two ∷ two.more)) rest
      ∙ ap (λ (t : List ℕ). header_text q.expectation ++ t) (append_assoc (codes "version 2\n") (lines_text q.names two.more) rest),
)

-- such a text is refused at its third line
three_lines : (a b c rest : List ℕ) → (a ++ b) ++ (c ++ rest) ≡ (a ++ (b ++ c)) ++ rest
three_lines a b c rest =
    append_assoc a b (c ++ rest) ∙ ap (λ (t : List ℕ). a ++ t) (sym (append_assoc b c rest)) ∙ sym (append_assoc a (b ++ c) rest)

pub two_refused : (q : Question) → IsAsked q → (text : List ℕ) → SaysTwo q.expectation text → IsRefusedAt (RawBeginsOne q) (RawWholeOne q) text 3
two_refused q asked text two =
    refused_at_line (RawBeginsOne q) (RawWholeOne q) (raw_one_first q) (raw_one_whole q) (map (line_words q.names) (header q unobservable))
    (codes "version 2") two.0 text
    (raw_lines q.names asked.readable (header q unobservable) (proper_header q.names q unobservable))
    (lacking_on_line (codes "version 2") refl)
    (two.1 ∙ three_lines (verdict_text unobservable ++ codes "\n") (second_text unobservable q.expectation ++ codes "\n") (codes "version 2\n") two.0)
    (record { lines = header q unobservable; are = refl; begins = one_header unobservable [] refl })
    (raw_two_stuck q)

-- any other text is refused at one line by both
pub same_refused : (q : Question) (text : List ℕ) (n : ℕ) → (SaysTwo q.expectation text → ⊥) → IsRefusedAt (RawBegins q) (RawWhole q) text n
    → IsRefusedAt (RawBeginsOne q) (RawWholeOne q) text n
same_refused q text n none r = record {
  no_whole = λ made. r.no_whole (record {
    lines = made.lines;
    are_lines = made.are_lines;
    text_is = made.text_is;
    accepted = raw_whole_wide q made.lines
        made.accepted;
  });
  before = λ k less. narrow k (r.before k less);
  here = λ f. r.here (record {
    lines = f.lines;
    rest = f.rest;
    count = f.count;
    are_lines = f.are_lines;
    text_is = f.text_is;
    begin = raw_one_wide q
        f.lines f.begin;
  });
}
  where
    narrow : (k : ℕ) → FirstLinesBegin (RawBegins q) text k → FirstLinesBegin (RawBeginsOne q) text k
    narrow k f = record {
      lines = f.lines;
      rest = f.rest;
      count = f.count;
      are_lines = f.are_lines;
      text_is = f.text_is;
      begin = begins
          (one_or_two q f.begin.lines f.begin.begins);
    }
      where
        begins : BeginsOne q f.begin.lines ⊎ HasTwo q f.begin.lines → RawBeginsOne q f.lines
        begins (inl one) = record { lines = f.begin.lines; are = f.begin.are; begins = one }
        begins (inr two) =
            absurd (none (says_two q f.begin.lines f.rest text two (f.text_is ∙ ap (λ (raws : List (List ℕ)). text_of_lines raws ++ f.rest) f.begin.are
            ∙ ap (λ (t : List ℕ). t ++ f.rest) (joined_lines q.names f.begin.lines))))

-- a certificate of a refutation without that line is one of version 1
pub tree_text : (q : Question) (text : List ℕ) → (SaysTwo q.expectation text → ⊥) → IsCertificateText q unobservable text
    → (steps : List (Step Node)) × IsTreeText q text steps
tree_text q text none c = go c.certificate.0 c.certificate.1
  where
    go : (v : Version) → IsTreeCertificate q v c.lines → (steps : List (Step Node)) × IsTreeText q text steps
    go version_one tree = (tree.steps, record { text_is = c.text_is ∙ ap (lines_text q.names) tree.lines_are; refutes = tree.refutes })
    go Two tree =
        absurd (none (says_two q c.lines [] text (record { more = map step tree.steps ++ end ∷ []; are = tree.lines_are })
        (c.text_is ∙ sym (append-nil (lines_text q.names c.lines)))))

-- a certificate's text is made of its lines
made_one : (q : Question) → IsAsked q → (text : List ℕ) (v : Verdict) (ls : List Line) → IsCertificateOne q v ls → text ≡ lines_text q.names ls
    → IsMadeOf (RawWholeOne q) text
made_one q asked text v ls certificate is = record {
  lines = map (line_words q.names) ls;
  are_lines = raw_lines q.names asked.readable ls (proper_certificate q asked v ls (certificate_wide q v ls certificate));
  text_is = is ∙ sym (joined_lines q.names ls);
  accepted = record { verdict = v; lines = ls; are = refl; certificate = certificate };
}

no_graph_text : (q : Question) → IsAsked q → (text : List ℕ) → (IsMadeOf (RawWholeOne q) text → ⊥) → IsCertificateText q observable text → ⊥
no_graph_text q asked text none c = none (made_one q asked text observable c.lines c.certificate c.text_is)

no_tree_text : (q : Question) → IsAsked q → (text : List ℕ) → (IsMadeOf (RawWholeOne q) text → ⊥) → (steps : List (Step Node)) → IsTreeText q text steps → ⊥
no_tree_text q asked text none steps t =
    none (made_one q asked text unobservable (certificate_lines q unobservable (map step steps))
    (record { steps = steps; lines_are = refl; refutes = t.refutes }) t.text_is)

-- what the text is, by what came of its check
pub one_two : (q : Question) → IsAsked q → (text : List ℕ) → length text ≤ MAX_CERTIFICATE → SaysTwo q.expectation text → IsOne q text (Refused 3)
one_two q asked text short two =
    let at = two_refused q asked text two in one_refused 3 short (no_graph_text q asked text at.no_whole) (no_tree_text q asked text at.no_whole) at

pub one_seen : (q : Question) (text : List ℕ) → Verified q text Observable → IsOne q text Graph
one_seen q text (seen short c) = shown short c

pub tree_steps : (q : Question) (text : List ℕ) → (length text ≤ MAX_CERTIFICATE → SaysTwo q.expectation text → ⊥) → Verified q text Unobservable
    → (steps : List (Step Node)) × IsTreeText q text steps
tree_steps q text none (unseen short c) = tree_text q text (none short) c

pub one_unseen : (q : Question) (text : List ℕ) (read : List (Step Node)) → (length text ≤ MAX_CERTIFICATE → SaysTwo q.expectation text → ⊥)
    → Verified q text Unobservable
    → ((steps : List (Step Node)) → IsTreeText q text steps → read ≡ steps) → IsOne q text (Tree read)
one_unseen q text read none (unseen short c) only =
    let tree = tree_text q text (none short) c in
    let P : List (Step Node) → Type 0 = λ ss. IsTreeText q text ss in
    refuted read short (subst P (sym (only tree.0 tree.1)) tree.1)

pub one_at : (q : Question) (text : List ℕ) (n : ℕ) → IsAsked q → (length text ≤ MAX_CERTIFICATE → SaysTwo q.expectation text → ⊥)
    → Verified q text (refused_at n)
    → IsOne q text (Refused n)
one_at q text n asked none (too_long long) = one_too_long long
one_at q text n asked none (refused k short other is) =
    let at = same_refused q text n (none short) is in one_refused n short (no_graph_text q asked text at.no_whole) (no_tree_text q asked text at.no_whole) at

-- a text is one thing
abbrev is_o : List ℕ → Bool
is_o [] = false
is_o (c ∷ cs) = c == 111

graph_tree : (q : Question) (text : List ℕ) (steps : List (Step Node)) → IsCertificateText q observable text → IsTreeText q text steps → ⊥
graph_tree q text steps c t = clash (ap is_o (sym (c.text_is ∙ ap (lines_text q.names) c.certificate.lines_are) ∙ t.text_is))
  where
    clash : true ≡ false → ⊥
    clash e = cc

one_line : (q : Question) (text : List ℕ) (n k : ℕ) → IsRefusedAt (RawBeginsOne q) (RawWholeOne q) text n
    → IsRefusedAt (RawBeginsOne q) (RawWholeOne q) text k → n ≡ k
one_line q text n k x y = go (cases_order n k)
  where
    go : (n ≡ k) ⊎ ((n < k) ⊎ (k < n)) → n ≡ k
    go (inl same) = same
    go (inr (inl less)) = absurd (x.here (y.before n less))
    go (inr (inr more)) = absurd (y.here (x.before k more))

both_lengths : (text : List ℕ) → length text ≤ MAX_CERTIFICATE → MAX_CERTIFICATE < length text → ⊥
both_lengths text short long = omega (arith, short, long)

-- the steps of a text that has one list of them
abbrev pub HasOnly : (q : Question) (text : List ℕ) → One → Type 0
HasOnly q text Graph = Unit {0}
HasOnly q text (Tree steps) = (others : List (Step Node)) → IsTreeText q text others → steps ≡ others
HasOnly q text (Refused n) = Unit {0}

pub only_one : (q : Question) (text : List ℕ) (a : One) → IsOne q text a → HasOnly q text a → (b : One) → IsOne q text b → b ≡ a
only_one q text Graph (shown short x) h Graph (shown s y) = refl
only_one q text Graph (shown short x) h (Tree steps) (refuted ss s y) = absurd (graph_tree q text steps x y)
only_one q text Graph (shown short x) h (Refused n) (one_too_long long) = absurd (both_lengths text short long)
only_one q text Graph (shown short x) h (Refused n) (one_refused k s no_graph no_tree y) = absurd (no_graph x)
only_one q text (Tree steps) (refuted ss short x) h Graph (shown s y) = absurd (graph_tree q text steps y x)
only_one q text (Tree steps) (refuted ss short x) h (Tree others) (refuted os s y) = ap Tree (sym (h others y))
only_one q text (Tree steps) (refuted ss short x) h (Refused n) (one_too_long long) = absurd (both_lengths text short long)
only_one q text (Tree steps) (refuted ss short x) h (Refused n) (one_refused k s no_graph no_tree y) = absurd (no_tree steps x)
only_one q text (Refused n) (one_too_long long) h Graph (shown s y) = absurd (both_lengths text s long)
only_one q text (Refused n) (one_too_long long) h (Tree steps) (refuted ss s y) = absurd (both_lengths text s long)
only_one q text (Refused n) (one_too_long long) h (Refused m) (one_too_long longer) = refl
only_one q text (Refused n) (one_too_long long) h (Refused m) (one_refused k s no_graph no_tree y) = absurd (both_lengths text s long)
only_one q text (Refused n) (one_refused k short no_graph no_tree x) h Graph (shown s y) = absurd (no_graph y)
only_one q text (Refused n) (one_refused k short no_graph no_tree x) h (Tree steps) (refuted ss s y) = absurd (no_tree steps y)
only_one q text (Refused n) (one_refused k short no_graph no_tree x) h (Refused m) (one_too_long long) = absurd (both_lengths text short long)
only_one q text (Refused n) (one_refused k short no_graph no_tree x) h (Refused m) (one_refused j s other none y) = ap Refused (one_line q text m n y x)
