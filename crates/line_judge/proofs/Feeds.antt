-- What a feed's parts say of its text.
use Rattle.std.proofs.Common.{◌≡◌, ◌≤◌, ◌<◌, ◌+◌, inl, inr, ℕ, Bool, true, false, List, [], ◌∷◌, ◌++◌, length, min, refl, sym, ◌∙◌, subst, arith, length-append}
use Rattle.std.{proofs.lemmas.{Bool.{cases_lt, MatchBool-at_true, MatchBool-at_false}, List.Elements.{All-push}}, specs.Prelude.{◌↔◌, IsTrue, MatchBool}}
use Rattle.line_judge.specs.{Texts.{IsLine, HoldsRefused, IsRefusedAt}, JudgedLines.{IsGood, IsBad, IsRefusedWith}, Judges.{JudgeView}}
use Rattle.line_judge.specs.{Feeds.{HasTaken, IsDecided, IsSettled, IsRefusedBy}, declared.feed.Feed.{Feed}}
use Rattle.line_judge.proofs.{JudgedLines.{FirstBegins, StandsBegins, WholeBegins, refused_line}, Refusals.{holds_none}}

holds_bad : (begins : List (List ℕ) → Type 0) (text : List ℕ) (number : ℕ) → IsBad begins text number → HoldsRefused begins text
holds_bad begins text number bad = record {
  lines = bad.lines ++ bad.line ∷ [];
  rest = bad.rest;
  are_lines = All-push IsLine bad.lines bad.line bad.are_lines bad.is_line;
  text_is = bad.text_is;
  bad = bad.bad;
}

-- a feed is settled by its text alone
pub settled_by_text : {J : Type 0} (view : J → JudgeView)
    (first : (judge : J) → FirstBegins (view judge))
    (stands_begins : (judge : J) → StandsBegins (view judge))
    (start : J) (limit : ℕ) (text : List ℕ) (feed : Feed J) → HasTaken view start limit text feed
    → IsSettled feed ↔ IsDecided (view start).begins limit text text
settled_by_text view first stands_begins start limit text feed after =
    let bytes = after.bytes in let same = after.same_limit in let short = after.short in (
      λ settled. elim settled [
        | inl refused ↦ elim (cases_lt limit (length text)) [
          | inl past ↦ inl past
          | inr fits ↦ inr (holds_bad (view start).begins text feed.judged.lines
              (MatchBool-at_true (IsBad (view start).begins text feed.judged.lines) (IsGood view start text feed.judged) refused (after.within fits)))
        ]
        | inr past ↦ inl (omega arith)
      ],
      λ past_or_refused. elim past_or_refused [
        | inl past ↦ inr (omega arith)
        | inr holds ↦ elim (cases_lt limit (length text)) [
          | inl past ↦ inr (omega arith)
          | inr fits ↦ inl (refused_is feed.refused holds (after.within fits))
        ]
      ],
    )
  where
    refused_is : (b : Bool) → HoldsRefused (view start).begins text
        → MatchBool b (IsBad (view start).begins text feed.judged.lines) (IsGood view start text feed.judged) → IsTrue b
    refused_is true holds state = refl
    refused_is false holds good = absurd
        (holds_none (view start).begins (first start) good.lines feed.judged.part.items text good.are_lines good.is_open good.text_is
        ((good.alike.same_begins good.lines).1 (stands_begins feed.judged.judge good.lines good.stand)) holds)

-- with a piece that goes past the limit, or after a refused line, a feed is settled
pub settles : {J : Type 0} (view : J → JudgeView)
    (first : (judge : J) → FirstBegins (view judge))
    (stands_begins : (judge : J) → StandsBegins (view judge))
    (start : J) (limit : ℕ) (text piece : List ℕ) (old new : Feed J) → new.limit ≡ old.limit → new.refused ≡ old.refused
    → new.bytes ≡ min (old.bytes + length piece) 18446744073709551615
    → HasTaken view start limit text old → IsDecided (view start).begins limit text (text ++ piece) → IsSettled new
settles view first stands_begins start limit text piece old new same_limit same_refused bytes after past_or_refused =
    let before = after.bytes in let same = after.same_limit in let short = after.short in let long = length-append text piece in
    elim past_or_refused [
      | inl past ↦ inr (omega arith)
      | inr holds ↦ elim ((settled_by_text view first stands_begins start limit text old after).1 (inr holds)) [
        | inl refused ↦ inl (same_refused ∙ refused)
        | inr past ↦ inr (omega arith)
      ]
    ]

-- no more bytes came than the limit
pub fits : {J : Type 0} {view : J → JudgeView} {start : J} {limit : ℕ} {text : List ℕ} {feed : Feed J}
    → HasTaken view start limit text feed → feed.bytes ≤ feed.limit → length text ≤ limit
fits after few = let before = after.bytes in let same = after.same_limit in let short = after.short in omega arith

-- a line was refused before the end
pub refused_before : {J : Type 0} (view : J → JudgeView)
    (first : (judge : J) → FirstBegins (view judge))
    (whole_begins : (judge : J) → WholeBegins (view judge))
    (start : J) (limit : ℕ) (text : List ℕ) (feed : Feed J) (number : ℕ) → feed.bytes ≤ feed.limit → feed.refused ≡ true → number ≡ feed.judged.lines
    → HasTaken view start limit text feed → IsRefusedBy (view start).begins (view start).whole limit text number
refused_before view first whole_begins start limit text feed number few refused is after =
    let short = after.short in
    let within : length text ≤ limit = fits after few in
    let bad : IsBad (view start).begins text number = subst (λ n. IsBad (view start).begins text n) (sym is)
    (MatchBool-at_true (IsBad (view start).begins text feed.judged.lines) (IsGood view start text feed.judged) refused (after.within within)) in
    let line = refused_line view first whole_begins start text number (omega arith) bad in
    let from_one = line.0 in
    record { past = λ none. absurd (omega arith); within = λ some. within; line = λ some. line.1 }

-- the text ends without a refused line before
pub ends : {J : Type 0} (view : J → JudgeView) (start : J) (limit : ℕ) (text : List ℕ) (feed : Feed J) → feed.bytes ≤ feed.limit
    → feed.refused ≡ false → HasTaken view start limit text feed → IsGood view start text feed.judged
ends view start limit text feed few open_still after =
    MatchBool-at_false (IsBad (view start).begins text feed.judged.lines) (IsGood view start text feed.judged)
    open_still (after.within (fits after few))

-- and is refused there
pub refused_after : (begins whole : List (List ℕ) → Type 0) (limit : ℕ) (text : List ℕ) (number : ℕ) → length text ≤ limit → limit < 9223372036854775808
    → IsRefusedWith begins whole text number → IsRefusedBy begins whole limit text number
refused_after begins whole limit text number within short there =
    let count = there.count in let few = there.few in let from_one = there.from_one in
    let is : there.line ≡ number = omega arith in record {
      past = λ none. absurd (omega arith);
      within = λ some. within;
      line = λ some. subst (λ n. IsRefusedAt begins whole text n) is there.refused;
    }
