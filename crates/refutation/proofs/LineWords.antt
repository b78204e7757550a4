-- Lines that are cut at their spaces.
use Rattle.std.proofs.Common.{◌≡◌, ℕ, ◌+◌, ◌-◌, ◌<◌, ◌≤◌, length, get_or, take, drop, List, [], ◌∷◌, ◌++◌, sym, ◌∙◌, ap, subst}
use Rattle.std.proofs.lemmas.List.{append-nil, drop_more, take_all, take-append-drop, Elements.{All-head, All-tail, All-weaker}}
use Rattle.std.{proofs.lemmas.List.Splits.{join_with_byte-slice_split}, specs.{Prelude.{All}, List.{join_with_byte}}}
use Rattle.pc_ground.{specs.{NodeForm.{IsNodeForm}, NodeWords.{Lacks}, Words.{words}}, proofs.Cuts.{all_left, words_last, words_more}}
use Rattle.pc_ground.proofs.Outside.{a_space, form_lacks}
use Rattle.refutation.specs.Words.{words_text}

pub words_spaced : (w : List ℕ) (ws : List (List ℕ)) → Lacks 32 w → All (Lacks 32) ws → words (w ++ words_text ws) ≡ w ∷ ws
words_spaced w [] h all = ap words (append-nil w) ∙ words_last w h
words_spaced w (v ∷ vs) h all =
    words_more w (v ++ words_text vs) h ∙ ap (λ r. w ∷ r) (words_spaced v vs (All-head (Lacks 32) v vs all) (All-tail (Lacks 32) v vs all))

joined : (w : List ℕ) (ws : List (List ℕ)) → join_with_byte 32 (w ∷ ws) ≡ w ++ words_text ws
joined w [] = sym (append-nil w)
joined w (v ∷ vs) = ap (λ r. w ++ 32 ∷ r) (joined v vs)

-- a line is its words, joined by one space each
pub line_spaced : (line w : List ℕ) (ws : List (List ℕ)) → words line ≡ w ∷ ws → line ≡ w ++ words_text ws
line_spaced line w ws e = sym (join_with_byte-slice_split 32 line) ∙ ap (join_with_byte 32) e ∙ joined w ws

pub line_alone : (line w : List ℕ) → words line ≡ w ∷ [] → line ≡ w
line_alone line w e = line_spaced line w [] e ∙ append-nil w

-- no node's text has a space
pub form_spaceless : (word : List ℕ) → IsNodeForm word → Lacks 32 word
form_spaceless = form_lacks 32 a_space

pub forms_lack : (ws : List (List ℕ)) → All IsNodeForm ws → All (Lacks 32) ws
forms_lack ws all = All-weaker IsNodeForm (Lacks 32) form_spaceless ws all

-- a line that is cut at its first space, and one that has none
pub words_cut : (line : List ℕ) (at : ℕ) → at < length line → get_or line at 0 ≡ 32 → Lacks 32 (take at line)
    → words line ≡ take at line ∷ words (take (length line - (at + 1)) (drop (at + 1) line))
words_cut line at inside is h =
    let split : line ≡ take at line ++ 32 ∷ drop (at + 1) line =
    sym (take-append-drop at line) ∙ ap (λ r. take at line ++ r) (drop_more line at 0 inside ∙ ap (λ c. c ∷ drop (at + 1) line) is) in
    ap words split ∙ words_more (take at line) (drop (at + 1) line) h ∙ ap (λ r. take at line ∷ words r) (sym (all_left (at + 1) line))

pub words_uncut : (line : List ℕ) (at : ℕ) → length line ≤ at → Lacks 32 (take at line) → words line ≡ line ∷ []
words_uncut line at past h = words_last line (let P : List ℕ → Type 0 = λ xs. Lacks 32 xs in subst P (take_all at line past) h)
