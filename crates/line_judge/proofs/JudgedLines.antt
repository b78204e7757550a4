-- A judge takes a line, and what its lines are of the text afterwards.
use Rattle.std.proofs.Common.{◌≡◌, ◌≤◌, ◌<◌, ◌+◌, ℕ, Bool, true, false, List, [], ◌∷◌, ◌++◌, Result, Ok, Err, length, min, refl, sym, ◌∙◌, ap, subst, arith, append_assoc, length-append}
use Rattle.std.{proofs.lemmas.List.{append-nil, Elements.{All-append, All-push, All-nil}}, specs.Prelude.{◌↔◌, IfOk}}
use Rattle.line_judge.specs.{Texts.{IsLine, text_of_lines, IsRefusedAt}, Judges.{JudgeView, GoesOn, Refuses}}
use Rattle.line_judge.specs.{JudgedLines.{IsGood, IsBad, IsJudged, IsWhole, IsRefusedWith}, declared.judged.Judged.{Judged}}
use Rattle.line_judge.proofs.{Cuts.{text_append, lines_within}, Refusals.{refused_at_line, refused_at_end}}

-- what a judge's laws say of it: first lines of those that begin well do so too, and what it took, and what is whole
abbrev pub FirstBegins : JudgeView → Type 0
FirstBegins judge = (lines more : List (List ℕ)) → judge.begins (lines ++ more) → judge.begins lines

abbrev pub StandsBegins : JudgeView → Type 0
StandsBegins judge = (lines : List (List ℕ)) → judge.stands lines → judge.begins lines

abbrev pub WholeBegins : JudgeView → Type 0
WholeBegins judge = (lines : List (List ℕ)) → judge.whole lines → judge.begins lines

-- the open line and its end, after the lines so far
line_ends : (lines : List (List ℕ)) (part end line : List ℕ) → line ≡ part ++ end
    → (text_of_lines lines ++ part) ++ (end ++ 10 ∷ []) ≡ text_of_lines (lines ++ line ∷ []) ++ []
line_ends lines part end line is =
    append_assoc (text_of_lines lines) part (end ++ 10 ∷ [])
    ∙ ap (λ text. text_of_lines lines ++ text) (sym (append_assoc part end (10 ∷ [])) ∙ ap (λ text. text ++ 10 ∷ []) (sym is)
    ∙ sym (append-nil (line ++ 10 ∷ [])) ∙ sym (append-nil ((line ++ 10 ∷ []) ++ [])))
    ∙ sym (text_append lines (line ∷ []) [])

line_is : (end line part : List ℕ) → IsLine end → line ≡ part ++ end → IsLine part → IsLine line
line_is end line part is_end is is_part = subst IsLine (sym is) (All-append (λ byte. byte ≡ 10 → ⊥) part end is_part is_end)

-- a line was judged
pub line_judged : {J : Type 0} (view : J → JudgeView)
    (stands_begins : (judge : J) → StandsBegins (view judge))
    (start : J) (text end line : List ℕ) (old new : Judged J) (is_good : Bool)
    → IsLine end → line ≡ old.part.items ++ end
    → new.lines ≡ min (old.lines + 1) 18446744073709551615 → new.part.items ≡ []
    → ((lines : List (List ℕ)) → (view old.judge).begins lines ↔ (view new.judge).begins lines)
    → ((lines : List (List ℕ)) → (view old.judge).whole lines ↔ (view new.judge).whole lines)
    → (is_good ≡ true → GoesOn (view old.judge) (view new.judge) line)
    → (is_good ≡ false → Refuses (view old.judge) line)
    → IsGood view start text old
    → IsJudged view start (text ++ (end ++ 10 ∷ [])) new is_good
line_judged view stands_begins start text end line old new true is_end is count empty same_begins same_whole goes refused good =
    let before = good.count in record {
      lines = good.lines ++ line ∷ [];
      are_lines = All-push IsLine good.lines line good.are_lines (line_is end line old.part.items is_end is good.is_open);
      is_open = subst IsLine (sym empty) (All-nil (λ byte. byte ≡ 10 → ⊥));
      text_is = ap (λ xs. xs ++ (end ++ 10 ∷ [])) good.text_is ∙ line_ends good.lines old.part.items end line is
          ∙ ap (λ xs. text_of_lines (good.lines ++ line ∷ []) ++ xs) (sym empty);
      count = omega (arith, length-append good.lines (line ∷ []));
      stand = goes refl good.lines good.stand;
      alike = record {
        same_begins = λ lines. let one = good.alike.same_begins lines in let two = same_begins lines in (λ b. two.0 (one.0 b), λ b. one.1 (two.1 b));
        same_whole = λ lines. let one = good.alike.same_whole lines in let two = same_whole lines in (λ b. two.0 (one.0 b), λ b. one.1 (two.1 b));
      };
    }
line_judged view stands_begins start text end line old new false is_end is count empty same_begins same_whole goes refused good =
    let before = good.count in record {
      lines = good.lines;
      line = line;
      rest = [];
      are_lines = good.are_lines;
      is_line = line_is end line old.part.items is_end is good.is_open;
      text_is = ap (λ xs. xs ++ (end ++ 10 ∷ [])) good.text_is ∙ line_ends good.lines old.part.items end line is;
      count = omega arith;
      begin = (good.alike.same_begins good.lines).1 (stands_begins old.judge good.lines good.stand);
      bad = λ begin. refused refl good.lines good.stand ((good.alike.same_begins (good.lines ++ line ∷ [])).0 begin);
    }

-- the same, where the judge may get no memory
pub line_stepped : {J : Type 0} (view : J → JudgeView)
    (stands_begins : (judge : J) → StandsBegins (view judge))
    (start : J) (text end line : List ℕ) (old new : Judged J) {E : Type 0} (result : Result Bool E)
    → IsLine end → line ≡ old.part.items ++ end
    → new.lines ≡ min (old.lines + 1) 18446744073709551615 → new.part.items ≡ []
    → ((lines : List (List ℕ)) → (view old.judge).begins lines ↔ (view new.judge).begins lines)
    → ((lines : List (List ℕ)) → (view old.judge).whole lines ↔ (view new.judge).whole lines)
    → IfOk result (λ good. good ≡ true → GoesOn (view old.judge) (view new.judge) line)
    → IfOk result (λ good. good ≡ false → Refuses (view old.judge) line)
    → IsGood view start text old
    → IfOk result (IsJudged view start (text ++ (end ++ 10 ∷ [])) new)
line_stepped view stands_begins start text end line old new (Err e) is_end is count empty same_begins same_whole goes refused good = tt
line_stepped view stands_begins start text end line old new (Ok is_good) is_end is count empty same_begins same_whole goes refused good =
    line_judged view stands_begins start text end line old new is_good is_end is count empty same_begins same_whole goes refused good

-- a refused line stays so, whatever follows
pub bad_stays : (begins : List (List ℕ) → Type 0) (text more : List ℕ) (number : ℕ)
    → IsBad begins text number → IsBad begins (text ++ more) number
bad_stays begins text more number bad = record {
  lines = bad.lines;
  line = bad.line;
  rest = bad.rest ++ more;
  are_lines = bad.are_lines;
  is_line = bad.is_line;
  text_is = ap (λ xs. xs ++ more) bad.text_is ∙ append_assoc (text_of_lines (bad.lines ++ bad.line ∷ [])) bad.rest more;
  count = bad.count;
  begin = bad.begin;
  bad = bad.bad;
}

-- a piece of which the first part was taken, and then a line and its LF
pub next_taken : (taken line left rest piece : List ℕ) → piece ≡ taken ++ left → left ≡ line ++ rest → piece ≡ (taken ++ line) ++ rest
next_taken taken line left rest piece is next = is ∙ ap (λ xs. taken ++ xs) next ∙ sym (append_assoc taken line rest)

-- the text ends, no line is open, and the lines are a whole text
pub whole_at_end : {J : Type 0} (view : J → JudgeView) (start : J) (text : List ℕ) (judged : Judged J)
    → judged.part.items ≡ [] → ((lines : List (List ℕ)) → (view judged.judge).stands lines → (view judged.judge).whole lines)
    → IsGood view start text judged → IsWhole view start text judged.judge
whole_at_end view start text judged empty done good = record {
  made = record {
    lines = good.lines;
    are_lines = good.are_lines;
    text_is = good.text_is ∙ ap (λ xs. text_of_lines good.lines ++ xs) empty ∙ append-nil (text_of_lines good.lines);
    accepted = (good.alike.same_whole good.lines).1 (done good.lines good.stand);
  };
  stand = good.stand;
  alike = good.alike;
}

-- the text ends where it is not whole
pub refused_end : {J : Type 0} (view : J → JudgeView)
    (first : (judge : J) → FirstBegins (view judge))
    (stands_begins : (judge : J) → StandsBegins (view judge))
    (start : J) (text : List ℕ) (judged : Judged J) (number : ℕ) → number ≡ min (judged.lines + 1) 18446744073709551615
    → (judged.part.items ≡ [] → (lines : List (List ℕ)) → (view judged.judge).stands lines → (view judged.judge).whole lines → ⊥)
    → IsGood view start text judged → IsRefusedWith (view start).begins (view start).whole text number
refused_end view first stands_begins start text judged number count not_whole good =
    let before = good.count in
    let fewer : length good.lines ≤ length text = subst (λ t. length good.lines ≤ length t) (sym good.text_is)
    (lines_within good.lines judged.part.items) in record {
      line = length good.lines + 1;
      from_one = omega arith;
      few = omega arith;
      count = omega arith;
      refused = refused_at_end (view start).begins (view start).whole (first start) good.lines judged.part.items text good.are_lines good.is_open good.text_is
          ((good.alike.same_begins good.lines).1 (stands_begins judged.judge good.lines good.stand))
          (λ empty accepted. not_whole empty good.lines good.stand ((good.alike.same_whole good.lines).0 accepted));
    }

-- the line that is refused
pub refused_line : {J : Type 0} (view : J → JudgeView)
    (first : (judge : J) → FirstBegins (view judge))
    (whole_begins : (judge : J) → WholeBegins (view judge))
    (start : J) (text : List ℕ) (number : ℕ) → length text < 18446744073709551615 → IsBad (view start).begins text number
    → (0 < number) × IsRefusedAt (view start).begins (view start).whole text number
refused_line view first whole_begins start text number short bad =
    let counted = bad.count in
    let few : length (bad.lines ++ bad.line ∷ []) ≤ length text =
    subst (λ t. length (bad.lines ++ bad.line ∷ []) ≤ length t) (sym bad.text_is) (lines_within (bad.lines ++ bad.line ∷ []) bad.rest) in
    let one = length-append bad.lines (bad.line ∷ []) in
    let is : length bad.lines + 1 ≡ number = omega arith in (
      omega arith,
      subst (λ n. IsRefusedAt (view start).begins (view start).whole text n) is
          (refused_at_line (view start).begins (view start).whole (first start) (whole_begins start) bad.lines bad.line bad.rest text bad.are_lines bad.is_line
          bad.text_is bad.begin bad.bad),
    )
