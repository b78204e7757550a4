-- Laws of the judge of lifted texts: what it took, a first part of what begins well, and a whole text begin well.
use Rattle.std.{specs.Prelude.{ℕ, ◌≡◌, ◌⊎◌, List, [], ◌∷◌, ◌++◌, codes}, proofs.Common.{inl, inr, refl, sym, ◌∙◌, ap, subst}}
use Rattle.std.proofs.lemmas.List.{append-nil, append_assoc}
use Rattle.lifted_facts.specs.{PlainFacts.{root}, Opens.{opens_at}}
use Rattle.lifted_check.specs.{LiftedTexts.{Question, header, second_line, IsPartialText, IsLiftedText, BeginsLifted}, Stages.{StandsAt}}
use Rattle.lifted_check.specs.declared.stage.Stage.{Stage, TheVariants.{Start, First, Second, Steps, Ended}}

pub first_begins : (q : Question) (lines more : List (List ℕ)) → BeginsLifted q (lines ++ more) → BeginsLifted q lines
first_begins q lines more b = record {
  more = more ++ b.more;
  begins = (let P : List (List ℕ) → Type 0 = λ ls. IsPartialText q ls ⊎ IsLiftedText q ls in subst P (append_assoc lines more b.more) b.begins);
}

-- a header without steps, of which these lines are the first
in_header : (q : Question) (lines more : List (List ℕ)) → lines ++ more ≡ header q → BeginsLifted q lines
in_header q lines more e = record {
  more = more;
  begins = inl (record { steps = []; opens = root q.axioms ∷ []; are = e; run = refl });
}

pub whole_begins : (q : Question) (lines : List (List ℕ)) → IsLiftedText q lines → BeginsLifted q lines
whole_begins q lines w = record {
  more = [];
  begins = inr (let P : List (List ℕ) → Type 0 = λ ls. IsLiftedText q ls in subst P (sym (append-nil lines)) w);
}

pub taken_begins : (q : Question) (stage : Stage) (lines : List (List ℕ)) → StandsAt q stage lines → BeginsLifted q lines
taken_begins q Start lines st = in_header q lines (header q) (ap (λ (ls : List (List ℕ)). ls ++ header q) st)
taken_begins q First lines st =
    in_header q lines (second_line q ∷ codes "lifted" ∷ []) (ap (λ (ls : List (List ℕ)). ls ++ (second_line q ∷ codes "lifted" ∷ [])) st)
taken_begins q Second lines st = in_header q lines (codes "lifted" ∷ []) (ap (λ (ls : List (List ℕ)). ls ++ (codes "lifted" ∷ [])) st)
taken_begins q (Steps o) lines st = record {
  more = [];
  begins = inl (record { steps = st.steps; opens = opens_at o; are = append-nil lines ∙ st.are; run = st.run });
}
taken_begins q Ended lines st = whole_begins q lines st
