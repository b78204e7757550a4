-- Lines that are cut at their spaces.
use Rattle.std.proofs.{Common.{◌≡◌, ℕ, List, [], ◌∷◌, sym, ◌∙◌, ap}, lemmas.List.{Elements.{All-head, All-tail}, Splits.{join_with_byte-slice_split}}}
use Rattle.std.specs.{Prelude.{All}, List.{join_with_byte}}
use Rattle.pc_ground.{specs.{NodeWords.{Lacks, IsCut}, Words.{words}}, proofs.Cuts.{words_last, words_more}}

pub words_cut : (line word rest : List ℕ) → IsCut 32 line word rest → words line ≡ word ∷ words rest
words_cut line word rest h = ap words h.1 ∙ words_more word rest h.0

-- words without a space, joined by one each, are cut so again; and a line is its words
pub words_joined : (w : List ℕ) (ws : List (List ℕ)) → Lacks 32 w → All (Lacks 32) ws → words (join_with_byte 32 (w ∷ ws)) ≡ w ∷ ws
words_joined w [] h all = words_last w h
words_joined w (v ∷ vs) h all =
    words_more w (join_with_byte 32 (v ∷ vs)) h ∙ ap (λ r. w ∷ r) (words_joined v vs (All-head (Lacks 32) v vs all) (All-tail (Lacks 32) v vs all))

pub line_of_words : (line : List ℕ) (ws : List (List ℕ)) → words line ≡ ws → line ≡ join_with_byte 32 ws
line_of_words line ws e = sym (join_with_byte-slice_split 32 line) ∙ ap (join_with_byte 32) e
