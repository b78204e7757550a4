-- Several pieces written one after another, as one piece.
use Rattle.std.proofs.{Common.{◌≡◌, ◌+◌, ◌++◌, ◌∙◌, List, ℕ, length, take, arith, ap, sym, append_assoc, length-append}, lemmas.List.{take-append-le}}
use Rattle.std.proofs.Math.Seq.{take-append-add}
use Rattle.pc_common.specs.Pieces.{IsCutShort}

-- where a piece is cut short, so is that piece with more after it
pub cut_in_first : {before piece after : List ℕ} (next : List ℕ) →
    IsCutShort before piece after → IsCutShort before (piece ++ next) after
cut_in_first {before} {piece} next cut = record {
  shown = cut.shown;
  short = omega (arith, length-append piece next);
  bytes = cut.bytes ∙ ap (λ xs. before ++ xs) (sym (take-append-le cut.shown piece next (omega arith)));
}

-- where all of a piece went out and then the next one is cut short, so are both as one piece
pub cut_in_next : {before between next after : List ℕ} (piece : List ℕ) →
    between ≡ before ++ piece → IsCutShort between next after → IsCutShort before (piece ++ next) after
cut_in_next {before} {between} {next} piece whole cut = record {
  shown = length piece + cut.shown;
  short = omega (arith, length-append piece next);
  bytes = cut.bytes ∙ ap (λ xs. xs ++ take cut.shown next) whole ∙ append_assoc before piece (take cut.shown next)
      ∙ ap (λ xs. before ++ xs) (sym (take-append-add piece next cut.shown));
}

-- where all of both went out, so did both as one piece
pub both_whole : (before : List ℕ) {between after : List ℕ} (piece next : List ℕ) →
    between ≡ before ++ piece → after ≡ between ++ next → after ≡ before ++ (piece ++ next)
both_whole before piece next first second = second ∙ ap (λ xs. xs ++ next) first ∙ append_assoc before piece next
