-- What each stage of reading a lifted text says of the lines so far, and what the next line makes of it.
use Rattle.std.specs.Prelude.{◌≡◌, ℕ, List, [], ◌∷◌, ◌++◌, Bool, true, false, Option, Some, None, codes}
use Rattle.pc_common.specs.Case.{Case}
use Rattle.pc_case.specs.MicroOps.{AreMicroOps}
use Rattle.lifted_facts.specs.{PlainFacts.{Branch, root}, declared.open_branches.FactBranches.{FactBranches}, Opens.{opens_at}}
use Rattle.lifted_check.specs.{LiftedTexts.{Question, header, second_line, LineAdvances, LinesRun, IsLiftedText, BeginsLifted}, declared.stage.Stage.{Stage}}
use Rattle.lifted_check.specs.declared.stage.Stage.TheVariants.{Start, First, Second, Steps, Ended}

-- step lines after a header, which leave these branches open
pub record AreStepsSoFar (q : Question) (o : FactBranches) (lines : List (List ℕ)) : Type 0 where
  pub steps : List (List ℕ)
  pub case : o.case.now ≡ q.case
  pub are : lines ≡ header q ++ steps
  pub run : LinesRun q.case steps (root q.axioms ∷ []) (opens_at o)

abbrev pub StandsAt : Question → Stage → List (List ℕ) → Type 0
StandsAt q Start lines = lines ≡ []
StandsAt q First lines = lines ≡ codes "unobservable" ∷ []
StandsAt q Second lines = lines ≡ codes "unobservable" ∷ second_line q ∷ []
StandsAt q (Steps o) lines = AreStepsSoFar q o lines
StandsAt q Ended lines = IsLiftedText q lines

-- what the next line makes of a stage: the one after it, or none where no text begins so
abbrev pub GoesTo : Question → List (List ℕ) → List ℕ → Option Stage → Type 0
GoesTo q lines line None = BeginsLifted q (lines ++ line ∷ []) → ⊥
GoesTo q lines line (Some next) = StandsAt q next (lines ++ line ∷ [])

-- what came of the next line: where it is good, the next stage stands after it; else no text begins so
abbrev pub HasGone : Question → List (List ℕ) → List ℕ → Stage → Bool → Type 0
HasGone q lines line new true = StandsAt q new (lines ++ line ∷ [])
HasGone q lines line new false = BeginsLifted q (lines ++ line ∷ []) → ⊥

-- what a step line makes of the open branches: it leads on to those, or it leads nowhere
abbrev pub HasSteppedOn : Case → List ℕ → List Branch → List Branch → Bool → Type 0
HasSteppedOn c line old new true = LineAdvances c line old new
HasSteppedOn c line old new false = (next : List Branch) → LineAdvances c line old next → ⊥

-- a whole text was read
abbrev pub is_end : Stage → Bool
is_end Ended = true
is_end _ = false

-- no two micro-ops of the test have one name, so that a line is that of one step
abbrev pub IsCase : Case → Type 0
IsCase c = AreMicroOps c.ops

abbrev pub IsAsked : Question → Type 0
IsAsked q = IsCase q.case

abbrev pub Stands : Question → Stage → List (List ℕ) → Type 0
Stands q stage lines = IsAsked q × StandsAt q stage lines
