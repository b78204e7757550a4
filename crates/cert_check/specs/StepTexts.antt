-- Steps that are read one after another from a text.
use Rattle.std.specs.Prelude.{◌≡◌, List, [], ◌∷◌, ◌++◌, ℕ, All, map, length, codes}
use Rattle.pc_common.specs.{Case.{Expectation}, World.{Node}, Steps.{Step}}
use Rattle.pc_common.specs.Lines.{Names, unobservable, verdict_text, second_text, step, end, step_words, lines_text}
use Rattle.pc_ground.specs.{Tree.{Tree}, declared.version.Version.TheVariants.{One as version_one}, Refutes.{Branch, Runs}}
use Rattle.line_judge.specs.Texts.{IsLine}
use Rattle.refutation.specs.Steps.{HasLine, IsStepIn, open_branches}

-- the header of a refutation, by what the test states
abbrev pub header_text : Expectation → List ℕ
header_text e = (verdict_text unobservable ++ codes "\n") ++ (second_text unobservable e ++ codes "\n")

-- after the header of a refutation stands the line of version 2
abbrev pub SaysTwo : Expectation → List ℕ → Type 0
SaysTwo e text = (rest : List ℕ) × (text ≡ header_text e ++ (codes "version 2\n" ++ rest))

-- a line can say the step, whose nodes are these names'
pub record IsReadable (names : Names) (s : Step Node) : Type 0 where
  pub has_line : HasLine s
  pub inside : IsStepIn names s
  pub is_line : IsLine (step_words names s)

-- the text is that of the further steps of a refutation, and of a certificate's last line
pub record IsAhead (names : Names) (t : Tree Node) (done more : List (Step Node)) (text : List ℕ) : Type 0 where
  pub text_is : text ≡ lines_text names (map step more ++ end ∷ [])
  pub each : All (IsReadable names) more
  pub opens : List Branch
  pub count : open_branches done ≡ length opens
  pub runs : Runs version_one t more opens []

-- a line was read: a step is put last, and the text after the line is that of the others
pub record HasRead (names : Names) (t : Tree Node) (old more new : List (Step Node)) (rest : List ℕ) : Type 0 where
  pub first : Step Node
  pub others : List (Step Node)
  pub more_is : more ≡ first ∷ others
  pub new_is : new ≡ old ++ first ∷ []
  pub ahead : IsAhead names t new others rest
