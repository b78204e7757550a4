-- The text of a lifted refutation, and what begins one.
use Rattle.std.specs.Prelude.{ℕ, ◌≡◌, ◌⊎◌, List, [], ◌∷◌, ◌++◌, codes}
use Rattle.pc_common.specs.{Case.{Case}, Lines.{unobservable, second_text}}
use Rattle.pc_syntax.specs.{declared.closed.Closed.{Closed}, Closed.{PlainClosed}}
use Rattle.pc_ground.specs.Stages.{plain_axioms}
use Rattle.lifted_facts.specs.{PlainFacts.{Branch, root}, Lifted.{LiftedStep, Advances}}
use Rattle.lifted_check.specs.StepLines.{IsStepLine}

-- what is asked: a test and closed axioms
pub record Question : Type 0 where
  pub case : Case
  pub axioms : List PlainClosed

-- of the axioms of the code
abbrev pub asked : Case → List Closed → Question
asked c axioms = record { case = c; axioms = plain_axioms axioms }

-- how the verdict compares with what the test states
abbrev pub second_line : Question → List ℕ
second_line q = second_text unobservable q.case.expectation

abbrev pub header : Question → List (List ℕ)
header q = codes "unobservable" ∷ second_line q ∷ codes "lifted" ∷ []

-- the line is that of a step, which leads from these open branches to those
abbrev pub LineAdvances : Case → List ℕ → List Branch → List Branch → Type 0
LineAdvances c line opens next = (s : LiftedStep) × IsStepLine c.ops line s × Advances c s opens next

-- so do the lines one after another
abbrev pub LinesRun : Case → List (List ℕ) → List Branch → List Branch → Type 0
LinesRun c [] opens rest = opens ≡ rest
LinesRun c (line ∷ lines) opens rest = (next : List Branch) × LineAdvances c line opens next × LinesRun c lines next rest

-- a header and step lines that leave these branches open
pub record IsPartialText (q : Question) (lines : List (List ℕ)) : Type 0 where
  pub steps : List (List ℕ)
  pub opens : List Branch
  pub are : lines ≡ header q ++ steps
  pub run : LinesRun q.case steps (root q.axioms ∷ []) opens

-- a header, step lines that leave no branch open, and the last line
pub record IsLiftedText (q : Question) (lines : List (List ℕ)) : Type 0 where
  pub steps : List (List ℕ)
  pub are : lines ≡ header q ++ (steps ++ codes "end" ∷ [])
  pub run : LinesRun q.case steps (root q.axioms ∷ []) []

-- with some lines more, the lines are a header with step lines, or a whole text
pub record BeginsLifted (q : Question) (lines : List (List ℕ)) : Type 0 where
  pub more : List (List ℕ)
  pub begins : IsPartialText q (lines ++ more) ⊎ IsLiftedText q (lines ++ more)
