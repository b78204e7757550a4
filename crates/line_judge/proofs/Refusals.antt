-- Where a text is refused, from a cut of it.
use Rattle.std.proofs.Common.{◌≡◌, ◌≤◌, ◌+◌, ℕ, List, [], ◌∷◌, ◌++◌, length, take, drop, sym, ◌∙◌, ap, subst, arith, length-append}
use Rattle.std.proofs.lemmas.List.{append-nil, append_cancel_left, take-append-drop, length-take-le, nil_from_length, Elements.{All-take, All-push, All-nil}}
use Rattle.std.specs.List.{All}
use Rattle.line_judge.{specs.Texts.{IsLine, text_of_lines, FirstLinesBegin, IsRefusedAt, HoldsRefused}, proofs.Cuts.{text_append, first_lines, fewer_lines}}

-- what begins well does so up to each of its lines
begins_well : (begins : List (List ℕ) → Type 0) (first : (lines more : List (List ℕ)) → begins (lines ++ more) → begins lines)
    (lines : List (List ℕ)) (rest text : List ℕ) → All IsLine lines → text ≡ text_of_lines lines ++ rest → begins lines
    → (k : ℕ) → k ≤ length lines → FirstLinesBegin begins text k
begins_well begins first lines rest text are text_is begin k within =
    let split : take k lines ++ drop k lines ≡ lines = take-append-drop k lines in record {
      lines = take k lines;
      rest = text_of_lines (drop k lines) ++ rest;
      count = length-take-le k lines within;
      are_lines = All-take IsLine k lines are;
      text_is = text_is ∙ ap (λ ls. text_of_lines ls ++ rest) (sym split) ∙ text_append (take k lines) (drop k lines) rest;
      begin = first (take k lines) (drop k lines) (subst begins (sym split) begin);
    }

-- lines of another cut that are there begin well too
pub prefix_begins : (begins : List (List ℕ) → Type 0) (first : (lines more : List (List ℕ)) → begins (lines ++ more) → begins lines)
    (ls ms : List (List ℕ)) (r s : List ℕ) → All IsLine ls → All IsLine ms → length ms ≤ length ls
    → text_of_lines ls ++ r ≡ text_of_lines ms ++ s → begins ls → begins ms
prefix_begins begins first ls ms r s a b fewer e begin =
    let more = first_lines ls ms r s a b fewer e in first ms more.0 (subst begins more.1 begin)

-- a line that stands in the text is the first that is refused
pub refused_at_line : (begins whole : List (List ℕ) → Type 0) (first : (lines more : List (List ℕ)) → begins (lines ++ more) → begins lines)
    (whole_begins : (lines : List (List ℕ)) → whole lines → begins lines)
    (lines : List (List ℕ)) (line rest text : List ℕ) → All IsLine lines → IsLine line → text ≡ text_of_lines (lines ++ line ∷ []) ++ rest
    → begins lines → (begins (lines ++ line ∷ []) → ⊥) → IsRefusedAt begins whole text (length lines + 1)
refused_at_line begins whole first whole_begins lines line rest text are is_line text_is begin bad =
    let all : All IsLine (lines ++ line ∷ []) = All-push IsLine lines line are is_line in record {
      no_whole = λ made.
          let same : text_of_lines made.lines ++ [] ≡ text_of_lines (lines ++ line ∷ []) ++ rest = append-nil (text_of_lines made.lines)
          ∙ sym made.text_is ∙ text_is in
          let fewer = fewer_lines made.lines (lines ++ line ∷ []) [] rest made.are_lines all (All-nil (λ byte. byte ≡ 10 → ⊥)) same in
          bad (prefix_begins begins first made.lines (lines ++ line ∷ []) [] rest made.are_lines all fewer same (whole_begins made.lines made.accepted));
      before = λ k less. begins_well begins first lines (text_of_lines (line ∷ []) ++ rest) text are
          (text_is ∙ text_append lines (line ∷ []) rest) begin k (omega arith);
      here = λ well.
          let same : text_of_lines well.lines ++ well.rest ≡ text_of_lines (lines ++ line ∷ []) ++ rest = sym well.text_is ∙ text_is in
          let counted = well.count in
          bad (prefix_begins begins first well.lines (lines ++ line ∷ []) well.rest rest well.are_lines all
          (omega (arith, length-append lines (line ∷ []))) same well.begin);
    }

-- the text ends where it is not whole: the line that should come next is refused
pub refused_at_end : (begins whole : List (List ℕ) → Type 0) (first : (lines more : List (List ℕ)) → begins (lines ++ more) → begins lines)
    (lines : List (List ℕ)) (part text : List ℕ) → All IsLine lines → IsLine part → text ≡ text_of_lines lines ++ part
    → begins lines → (part ≡ [] → whole lines → ⊥) → IsRefusedAt begins whole text (length lines + 1)
refused_at_end begins whole first lines part text are is_open text_is begin not_whole = record {
  no_whole = λ made.
      let same : text_of_lines lines ++ part ≡ text_of_lines made.lines ++ [] = sym text_is ∙ made.text_is ∙ sym (append-nil (text_of_lines made.lines)) in
      let fewer : length made.lines ≤ length lines = fewer_lines lines made.lines part [] are made.are_lines is_open same in
      let no_fewer : length lines ≤ length made.lines = fewer_lines made.lines lines [] part made.are_lines are (All-nil (λ byte. byte ≡ 10 → ⊥)) (sym same) in
      let more = first_lines lines made.lines part [] are made.are_lines fewer same in
      let counts : length lines ≡ length made.lines + length more.0 = ap length more.1 ∙ length-append made.lines more.0 in
      let none : more.0 ≡ [] = nil_from_length more.0 (omega arith) in
      let is : lines ≡ made.lines = more.1 ∙ ap (λ ls. made.lines ++ ls) none ∙ append-nil made.lines in
      not_whole (append_cancel_left (text_of_lines made.lines) part [] (ap (λ ls. text_of_lines ls ++ part) (sym is) ∙ same))
      (subst whole (sym is) made.accepted);
  before = λ k less. begins_well begins first lines part text are text_is begin k (omega arith);
  here = λ well.
      let counted = well.count in
      let fewer = fewer_lines lines well.lines part well.rest are well.are_lines is_open (sym text_is ∙ well.text_is) in
      absurd (omega arith);
}

-- a text whose lines all begin well holds no refused line
pub holds_none : (begins : List (List ℕ) → Type 0) (first : (lines more : List (List ℕ)) → begins (lines ++ more) → begins lines)
    (lines : List (List ℕ)) (part text : List ℕ) → All IsLine lines → IsLine part → text ≡ text_of_lines lines ++ part
    → begins lines → HoldsRefused begins text → ⊥
holds_none begins first lines part text are is_open text_is begin holds =
    let same : text_of_lines lines ++ part ≡ text_of_lines holds.lines ++ holds.rest = sym text_is ∙ holds.text_is in
    let fewer = fewer_lines lines holds.lines part holds.rest are holds.are_lines is_open same in
    holds.bad (prefix_begins begins first lines holds.lines part holds.rest are holds.are_lines fewer same begin)
