-- What may stand next in a lifted text.
use Rattle.std.{proofs.Common.{◌≡◌, ◌⊎◌, inl, inr, ℕ, Bool, true, false, List, [], ◌∷◌, ◌++◌, refl, sym, ◌∙◌, ap, subst, append_assoc}, specs.Prelude.{codes}}
use Rattle.lifted_facts.specs.{PlainFacts.{Branch, root}, declared.open_branches.FactBranches.{FactBranches}, Opens.{opens_at}}
use Rattle.lifted_check.specs.LiftedTexts.{Question, header, second_line, LineAdvances, LinesRun, IsPartialText, IsLiftedText, BeginsLifted}
use Rattle.lifted_check.specs.{Stages.{IsAsked, StandsAt, AreStepsSoFar, HasGone, HasSteppedOn, is_end}, declared.stage.Stage.{Stage}}
use Rattle.lifted_check.{specs.declared.stage.Stage.TheVariants.{Start, First, Second, Steps, Ended}, proofs.OneStep.{no_end_step}}
use Rattle.lifted_check.proofs.LineRuns.{lines_then, lines_cut, lines_one}

-- what stands after a header in lines that begin well: step lines, or these and the last line
pub data IsBody (q : Question) (body : List (List ℕ)) : Type 0 where
  of_steps : (opens : List Branch) → LinesRun q.case body (root q.axioms ∷ []) opens → IsBody q body
  of_all : (steps : List (List ℕ)) → body ≡ steps ++ codes "end" ∷ [] → LinesRun q.case steps (root q.axioms ∷ []) [] → IsBody q body

-- lines that begin well, with what makes them so
pub record HasBody (q : Question) (lines : List (List ℕ)) : Type 0 where
  pub more : List (List ℕ)
  pub body : List (List ℕ)
  pub are : lines ++ more ≡ header q ++ body
  pub is : IsBody q body

pub body_of : (q : Question) (lines : List (List ℕ)) → BeginsLifted q lines → HasBody q lines
body_of q lines b = go b.begins
  where
    go : IsPartialText q (lines ++ b.more) ⊎ IsLiftedText q (lines ++ b.more) → HasBody q lines
    go (inl p) = record { more = b.more; body = p.steps; are = p.are; is = of_steps p.opens p.run }
    go (inr w) = record { more = b.more; body = w.steps ++ codes "end" ∷ []; are = w.are; is = of_all w.steps refl w.run }

-- a body after lines that are the whole header or more
pub body_at : (q : Question) (steps : List (List ℕ)) (lines : List (List ℕ)) (line : List ℕ) → lines ≡ header q ++ steps → (b : HasBody q (lines ++ line ∷ []))
    → steps ++ line ∷ b.more ≡ b.body
body_at q steps lines line are b =
    let one : (lines ++ line ∷ []) ++ b.more ≡ (header q ++ steps) ++ line ∷ b.more =
    append_assoc lines (line ∷ []) b.more ∙ ap (λ (ls : List (List ℕ)). ls ++ line ∷ b.more) are in
    let both : header q ++ (steps ++ line ∷ b.more) ≡ header q ++ b.body = sym one ∙ b.are in
    cc

-- the first three lines
pub start_next : (q : Question) (lines : List (List ℕ)) (line : List ℕ) → lines ≡ [] → BeginsLifted q (lines ++ line ∷ []) → line ≡ codes "unobservable"
start_next q lines line are begins =
    let b = body_of q (lines ++ line ∷ []) begins in
    let both : line ∷ b.more ≡ header q ++ b.body = sym (ap (λ (ls : List (List ℕ)). (ls ++ line ∷ []) ++ b.more) are) ∙ b.are in
    cc

pub first_next : (q : Question) (lines : List (List ℕ)) (line : List ℕ) → lines ≡ codes "unobservable" ∷ []
    → BeginsLifted q (lines ++ line ∷ []) → line ≡ second_line q
first_next q lines line are begins =
    let b = body_of q (lines ++ line ∷ []) begins in
    let both : codes "unobservable" ∷ line ∷ b.more ≡ header q ++ b.body = sym (ap (λ (ls : List (List ℕ)). (ls ++ line ∷ []) ++ b.more) are) ∙ b.are in
    cc

pub second_next : (q : Question) (lines : List (List ℕ)) (line : List ℕ) → lines ≡ codes "unobservable" ∷ second_line q ∷ []
    → BeginsLifted q (lines ++ line ∷ []) → line ≡ codes "lifted"
second_next q lines line are begins =
    let b = body_of q (lines ++ line ∷ []) begins in
    let both : codes "unobservable" ∷ second_line q ∷ line ∷ b.more ≡ header q ++ b.body =
    sym (ap (λ (ls : List (List ℕ)). (ls ++ line ∷ []) ++ b.more) are) ∙ b.are in
    cc

-- where the last line stands
pub data IsLastCut (xs : List (List ℕ)) (line : List ℕ) (more ys : List (List ℕ)) (last : List ℕ) : Type 0 where
  at_end : more ≡ [] → line ≡ last → xs ≡ ys → IsLastCut xs line more ys last
  inside : (rest : List (List ℕ)) → ys ≡ xs ++ line ∷ rest → IsLastCut xs line more ys last

pub last_cut : (xs : List (List ℕ)) (line : List ℕ) (more ys : List (List ℕ)) (last : List ℕ) → xs ++ line ∷ more ≡ ys ++ last ∷ []
    → IsLastCut xs line more ys last
last_cut [] line more [] last e = at_end (cc) (cc) refl
last_cut [] line more (y ∷ ys) last e =
    inside ys (let same : y ≡ line = cc in ap (λ (z : List ℕ). z ∷ ys) same)
last_cut (x ∷ []) line more [] last e = (let no : line ∷ more ≡ [] = cc in cc)
last_cut (x ∷ z ∷ xs) line more [] last e = (let no : z ∷ (xs ++ line ∷ more) ≡ [] = cc in cc)
last_cut (x ∷ xs) line more (y ∷ ys) last e = go (last_cut xs line more ys last rest)
  where
    same : x ≡ y
    same = cc

    rest : xs ++ line ∷ more ≡ ys ++ last ∷ []
    rest = cc

    go : IsLastCut xs line more ys last → IsLastCut (x ∷ xs) line more (y ∷ ys) last
    go (at_end none is are) = at_end none is (ap (λ (z : List ℕ). z ∷ xs) same ∙ ap (λ (zs : List (List ℕ)). y ∷ zs) are)
    go (inside more are) = inside more (ap (λ (z : List ℕ). z ∷ ys) (sym same) ∙ ap (λ (zs : List (List ℕ)). x ∷ zs) are)

-- a line after steps leads on, or is the last one
pub data IsNext (q : Question) (opens : List Branch) (line : List ℕ) : Type 0 where
  a_step : (next : List Branch) → LineAdvances q.case line opens next → IsNext q opens line
  the_end : line ≡ codes "end" → opens ≡ [] → IsNext q opens line

next_in : (q : Question) → IsAsked q → (steps : List (List ℕ)) (opens : List Branch) (line : List ℕ) (more : List (List ℕ)) (rest : List Branch)
    → LinesRun q.case steps (root q.axioms ∷ []) opens → LinesRun q.case (steps ++ line ∷ more) (root q.axioms ∷ []) rest → IsNext q opens line
next_in q kept steps opens line more rest run all =
    let cut = lines_cut q.case steps (line ∷ more) (root q.axioms ∷ []) rest all in
    let same : cut.0 ≡ opens = lines_one q.case kept steps (root q.axioms ∷ []) cut.0 opens cut.1 run in
    let P : List Branch → Type 0 = λ bs. LineAdvances q.case line bs cut.2.0 in
    a_step cut.2.0 (subst P same cut.2.1)

pub steps_next : (q : Question) → IsAsked q → (lines steps : List (List ℕ)) (opens : List Branch) (line : List ℕ) → lines ≡ header q ++ steps
    → LinesRun q.case steps (root q.axioms ∷ []) opens → BeginsLifted q (lines ++ line ∷ []) → IsNext q opens line
steps_next q kept lines steps opens line are run begins = go b.is
  where
    b : HasBody q (lines ++ line ∷ [])
    b = body_of q (lines ++ line ∷ []) begins

    at : steps ++ line ∷ b.more ≡ b.body
    at = body_at q steps lines line are b

    go : IsBody q b.body → IsNext q opens line
    go (of_steps rest all) =
        (let P : List (List ℕ) → Type 0 = λ ls. LinesRun q.case ls (root q.axioms ∷ []) rest in
        next_in q kept steps opens line b.more rest run (subst P (sym at) all))
    go (of_all ys is all) = cut (last_cut steps line b.more ys (codes "end") (at ∙ is))
      where
        cut : IsLastCut steps line b.more ys (codes "end") → IsNext q opens line
        cut (at_end none last same) =
            (let P : List (List ℕ) → Type 0 = λ ls. LinesRun q.case ls (root q.axioms ∷ []) [] in
            the_end last (lines_one q.case kept steps (root q.axioms ∷ []) opens [] run (subst P (sym same) all)))
        cut (inside rest same) =
            (let P : List (List ℕ) → Type 0 = λ ls. LinesRun q.case ls (root q.axioms ∷ []) [] in
            next_in q kept steps opens line rest [] run (subst P same all))

-- nothing stands after the last line
pub no_more : (q : Question) → (lines : List (List ℕ)) (line : List ℕ) → IsLiftedText q lines → BeginsLifted q (lines ++ line ∷ []) → ⊥
no_more q lines line w begins = go b.is
  where
    b : HasBody q (lines ++ line ∷ [])
    b = body_of q (lines ++ line ∷ []) begins

    at : w.steps ++ codes "end" ∷ line ∷ b.more ≡ b.body
    at = sym (append_assoc w.steps (codes "end" ∷ []) (line ∷ b.more)) ∙ body_at q (w.steps ++ codes "end" ∷ []) lines line w.are b

    ended : (more : List (List ℕ)) (rest : List Branch) → LinesRun q.case (w.steps ++ codes "end" ∷ more) (root q.axioms ∷ []) rest → ⊥
    ended more rest all =
        (let cut = lines_cut q.case w.steps (codes "end" ∷ more) (root q.axioms ∷ []) rest all in no_end_step q.case.ops cut.2.1.0 cut.2.1.1)

    go : IsBody q b.body → ⊥
    go (of_steps rest all) =
        (let P : List (List ℕ) → Type 0 = λ ls. LinesRun q.case ls (root q.axioms ∷ []) rest in ended (line ∷ b.more) rest (subst P (sym at) all))
    go (of_all ys is all) = cut (last_cut w.steps (codes "end") (line ∷ b.more) ys (codes "end") (at ∙ is))
      where
        cut : IsLastCut w.steps (codes "end") (line ∷ b.more) ys (codes "end") → ⊥
        cut (at_end none last same) = cc
        cut (inside rest same) =
            (let P : List (List ℕ) → Type 0 = λ ls. LinesRun q.case ls (root q.axioms ∷ []) [] in ended rest [] (subst P same all))

-- a step line, taken where the branches are
pub steps_gone : (q : Question) → IsAsked q → (old new : FactBranches) (lines : List (List ℕ)) (line : List ℕ)
    → AreStepsSoFar q old lines → (line ≡ codes "end" → ⊥)
    → new.case.now ≡ old.case.now → (good : Bool) → HasSteppedOn q.case line (opens_at old) (opens_at new) good → HasGone q lines line (Steps new) good
steps_gone q kept old new lines line so_far other same true a = record {
  steps = so_far.steps ++ line ∷ [];
  case = same ∙ so_far.case;
  are = ap (λ (ls : List (List ℕ)). ls ++ line ∷ []) so_far.are ∙ append_assoc (header q) so_far.steps (line ∷ []);
  run = lines_then q.case so_far.steps (line ∷ []) (root q.axioms ∷ []) (opens_at old) (opens_at new) so_far.run ((opens_at new), a, refl);
}
steps_gone q kept old new lines line so_far other same false none =
    λ begins. go (steps_next q kept lines so_far.steps (opens_at old) line so_far.are so_far.run begins)
  where
    go : IsNext q (opens_at old) line → ⊥
    go (a_step next a) = none next a
    go (the_end is closed) = other is

pub steps_ended : (q : Question) (o : FactBranches) (lines : List (List ℕ)) → AreStepsSoFar q o lines → (opens_at o) ≡ []
    → IsLiftedText q (lines ++ codes "end" ∷ [])
steps_ended q o lines so_far closed = record {
  steps = so_far.steps;
  are = ap (λ (ls : List (List ℕ)). ls ++ codes "end" ∷ []) so_far.are ∙ append_assoc (header q) so_far.steps (codes "end" ∷ []);
  run = (let P : List Branch → Type 0 = λ bs. LinesRun q.case so_far.steps (root q.axioms ∷ []) bs in subst P closed so_far.run);
}

pub end_stuck : (q : Question) → IsAsked q → (o : FactBranches) (lines : List (List ℕ)) → AreStepsSoFar q o lines
    → ((opens_at o) ≡ [] → ⊥) → BeginsLifted q (lines ++ codes "end" ∷ []) → ⊥
end_stuck q kept o lines so_far «open» begins = go (steps_next q kept lines so_far.steps (opens_at o) (codes "end") so_far.are so_far.run begins)
  where
    go : IsNext q (opens_at o) (codes "end") → ⊥
    go (a_step next a) = no_end_step q.case.ops a.0 a.1
    go (the_end is closed) = «open» closed

-- the end of the text
pub done_is : (q : Question) → IsAsked q → (stage : Stage) (lines : List (List ℕ)) → StandsAt q stage lines
    → (is_end stage ≡ true → IsLiftedText q lines) × (IsLiftedText q lines → is_end stage ≡ true)
done_is q kept Ended lines st = (λ e. st, λ w. refl)
done_is q kept Start lines st = (λ e. cc, λ w. (let none : [] ≡ header q ++ (w.steps ++ codes "end" ∷ []) = sym st ∙ w.are in cc))
done_is q kept First lines st = (λ e. cc, λ w. (let none : codes "unobservable" ∷ [] ≡ header q ++ (w.steps ++ codes "end" ∷ []) = sym st ∙ w.are in cc))
done_is q kept Second lines st =
    (λ e. cc, λ w. (let none : codes "unobservable" ∷ second_line q ∷ [] ≡ header q ++ (w.steps ++ codes "end" ∷ []) = sym st ∙ w.are in cc))
done_is q kept (Steps o) lines st = (λ e. cc, λ w. absurd (no_last w))
  where
    no_last : IsLiftedText q lines → ⊥
    no_last w =
        (let both : header q ++ st.steps ≡ header q ++ (w.steps ++ codes "end" ∷ []) = sym st.are ∙ w.are in
        let same : st.steps ≡ w.steps ++ codes "end" ∷ [] = cc in
        let P : List (List ℕ) → Type 0 = λ ls. LinesRun q.case ls (root q.axioms ∷ []) (opens_at o) in
        let cut = lines_cut q.case w.steps (codes "end" ∷ []) (root q.axioms ∷ []) (opens_at o) (subst P same st.run) in
        no_end_step q.case.ops cut.2.1.0 cut.2.1.1)
