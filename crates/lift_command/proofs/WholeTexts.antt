-- The lines of a lifted refutation are a text of one.
use Rattle.std.proofs.{Common.{◌≡◌, ℕ, List, [], ◌∷◌, ◌++◌, refl, sym, ◌∙◌, ap, append_assoc}, lemmas.List.Elements.{All-nil, All-cons, All-head, All-tail}}
use Rattle.std.specs.{Prelude.{All, codes}, List.{flat_map}}
use Rattle.pc_common.specs.{Case.{Expectation, permitted, forbidden, unstated}, Lines.{unobservable, second_text}}
use Rattle.pc_ground.specs.NodeWords.{AreSmall}
use Rattle.line_judge.specs.Texts.{IsLine, text_of_lines, IsMadeOf}
use Rattle.lifted_facts.specs.{PlainFacts.{root}, Lifted.{LiftedStep, IsLiftedRefutation}}
use Rattle.lifted_check.specs.{StepLines.{numbers_of, IsSmall, HasValue}, LiftedTexts.{Question, second_line, header, IsLiftedText}}
use Rattle.lift_command.{specs.WrittenLines.{line_of, lines_of, line_text, all_lines, HasSmallCore}, proofs.StepRuns.{values_fit, lines_run}}
use Rattle.lift_command.proofs.SpacedLines.{line_fits, lacks_line}

abbrev AreSmallNumbers : LiftedStep → Type 0
AreSmallNumbers s = All IsSmall (numbers_of s)

all_append : {X : Type 0} (P : X → Type 0) (xs ys : List X) → All P xs → All P ys → All P (xs ++ ys)
all_append P [] ys h k = k
all_append P (x ∷ xs) ys h k = All-cons P x (xs ++ ys) (All-head P x xs h) (all_append P xs ys (All-tail P x xs h) k)

steps_fit : (q : Question) (steps : List LiftedStep) → All AreSmallNumbers steps → All (HasValue q.case.ops) steps → All IsLine (lines_of q.case.ops steps)
steps_fit q [] small values = All-nil IsLine
steps_fit q (s ∷ ss) small values =
    All-cons IsLine (line_of q.case.ops s) (lines_of q.case.ops ss)
    (line_fits q.case.ops s (All-head AreSmallNumbers s ss small) (All-head (HasValue q.case.ops) s ss values))
    (steps_fit q ss (All-tail AreSmallNumbers s ss small) (All-tail (HasValue q.case.ops) s ss values))

second_fits : (e : Expectation) → IsLine (second_text unobservable e)
second_fits permitted = lacks_line (second_text unobservable permitted) refl
second_fits forbidden = lacks_line (second_text unobservable forbidden) refl
second_fits unstated = lacks_line (second_text unobservable unstated) refl

header_fits : (q : Question) → All IsLine (header q)
header_fits q =
    All-cons IsLine (codes "unobservable") (second_line q ∷ codes "lifted" ∷ []) (lacks_line (codes "unobservable") refl)
    (All-cons IsLine (second_line q) (codes "lifted" ∷ []) (second_fits q.case.expectation)
    (All-cons IsLine (codes "lifted") [] (lacks_line (codes "lifted") refl) (All-nil IsLine)))

texts : (q : Question) (steps : List LiftedStep) → text_of_lines (lines_of q.case.ops steps) ≡ flat_map (line_text q.case.ops) steps
texts q [] = refl
texts q (s ∷ ss) = ap (λ (r : List ℕ). line_text q.case.ops s ++ r) (texts q ss)

pub text_append : (xs ys : List (List ℕ)) → text_of_lines (xs ++ ys) ≡ text_of_lines xs ++ text_of_lines ys
text_append [] ys = refl
text_append (x ∷ xs) ys = ap (λ (r : List ℕ). (x ++ codes "\n") ++ r) (text_append xs ys)
    ∙ sym (append_assoc (x ++ codes "\n") (text_of_lines xs) (text_of_lines ys))

-- the header, the lines of the steps and the last line
abbrev pub whole_bytes : Question → List LiftedStep → List ℕ
whole_bytes q steps =
    ((codes "unobservable\n" ++ ((second_line q ++ codes "\n") ++ codes "lifted\n")) ++ flat_map (line_text q.case.ops) steps) ++ codes "end\n"

header_text : (second : List ℕ)
    → text_of_lines (codes "unobservable" ∷ second ∷ codes "lifted" ∷ []) ≡ codes "unobservable\n" ++ ((second ++ codes "\n") ++ codes "lifted\n")
header_text second = refl

whole_lines : (q : Question) (steps : List LiftedStep) → whole_bytes q steps ≡ text_of_lines (all_lines q (lines_of q.case.ops steps))
whole_lines q steps =
    let head = header_text (second_line q) in
    let body = texts q steps in
    ap (λ (h : List ℕ). (h ++ flat_map (line_text q.case.ops) steps) ++ codes "end\n") (sym head)
    ∙ ap (λ (b : List ℕ). (text_of_lines (header q) ++ b) ++ codes "end\n") (sym body)
    ∙ append_assoc (text_of_lines (header q)) (text_of_lines (lines_of q.case.ops steps)) (codes "end\n")
    ∙ ap (λ (r : List ℕ). text_of_lines (header q) ++ r) (sym (text_append (lines_of q.case.ops steps) (codes "end" ∷ [])))
    ∙ sym (text_append (header q) (lines_of q.case.ops steps ++ codes "end" ∷ []))

pub whole_text : (q : Question) (steps : List LiftedStep) (text : List ℕ) → IsLiftedRefutation q.case q.axioms steps
    → AreSmall q.case.ops → All AreSmallNumbers steps → All HasSmallCore steps
    → text ≡ whole_bytes q steps → IsMadeOf (IsLiftedText q) text
whole_text q steps text refuted ops small cores is =
    let values = values_fit q.case steps (root q.axioms ∷ []) [] ops cores refuted in
    record {
      lines = all_lines q (lines_of q.case.ops steps);
      are_lines = all_append IsLine (header q) (lines_of q.case.ops steps ++ codes "end" ∷ []) (header_fits q)
          (all_append IsLine (lines_of q.case.ops steps) (codes "end" ∷ []) (steps_fit q steps small values)
          (All-cons IsLine (codes "end") [] (lacks_line (codes "end") refl) (All-nil IsLine)));
      text_is = is ∙ whole_lines q steps;
      accepted = record { steps = lines_of q.case.ops steps; are = refl; run = lines_run q.case steps (root q.axioms ∷ []) [] small values refuted };
    }
