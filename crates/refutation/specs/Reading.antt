-- Which texts are step lines, by form and of the nodes of a test and a model, and what reading one answers.
use Rattle.std.specs.Prelude.{ℕ, ◌≡◌, Bool, List, [], ◌∷◌, ◌++◌, Result, Ok, Err, All, codes}
use Rattle.pc_common.specs.{World.{Node}, Steps.{Leaf, cycle, path, absent, false_step, Step as PlainStep, split, close}, Lines.{Names, step_words, sign_text}}
use Rattle.pc_ground.specs.{Decimals.{IsDecimal}, NodeForm.{IsNodeForm}, declared.line_fault.LineFault.{LineFault, TheVariants.{Malformed, Foreign}}}
use Rattle.refutation.specs.{Steps.{IsStepIn, HasLine}, Words.{words_text}, declared.step_head.StepHead.{StepHead}}
use Rattle.refutation.specs.declared.step_head.StepHead.TheVariants.{Split, Cycle, Path, Absent, False}

abbrev pub leaf_head : Leaf Node → StepHead
leaf_head (cycle nodes) = Cycle
leaf_head (path nodes) = Path
leaf_head (absent a) = Absent
leaf_head false_step = False

-- what the step says, its nodes aside
abbrev pub head_of : PlainStep Node → StepHead
head_of (split negated p) = Split negated p
head_of (close l) = leaf_head l

abbrev pub leaf_nodes : Leaf Node → List Node
leaf_nodes (cycle nodes) = nodes
leaf_nodes (path nodes) = nodes
leaf_nodes (absent a) = a ∷ []
leaf_nodes false_step = []

-- the nodes of the step, in the order of its line
abbrev pub nodes_of : PlainStep Node → List Node
nodes_of (split negated p) = []
nodes_of (close l) = leaf_nodes l

-- the line, without its LF, is that of this step, whose nodes are these names'
pub record IsLineOf (names : Names) (line : List ℕ) (s : PlainStep Node) : Type 0 where
  pub has_line : HasLine s
  pub inside : IsStepIn names s
  pub is : line ≡ step_words names s

-- the line has the form of a step line, whatever its nodes name
pub data IsStepForm (line : List ℕ) : Type 0 where
  a_split : (negated : Bool) (digits : List ℕ) (p : ℕ) → IsDecimal digits p
      → line ≡ codes "split " ++ sign_text negated ++ digits
      → IsStepForm line
  a_cycle : (a : List ℕ) (more : List (List ℕ)) → IsNodeForm a → All IsNodeForm more
      → line ≡ codes "cycle" ++ words_text (a ∷ more)
      → IsStepForm line
  a_path : (a b : List ℕ) (more : List (List ℕ)) → IsNodeForm a → IsNodeForm b → All IsNodeForm more
      → line ≡ codes "path" ++ words_text (a ∷ b ∷ more) → IsStepForm line
  an_absence : (a : List ℕ) → IsNodeForm a → line ≡ codes "absent " ++ a → IsStepForm line
  a_falsity : line ≡ codes "false" → IsStepForm line

-- what reading a line answers, with the nodes that it leaves: the step whose line it is, or why it is none's
abbrev pub ReadsStep : Names → List ℕ → List Node → Result StepHead LineFault → Type 0
ReadsStep names line nodes (Ok head) = (s : PlainStep Node) × IsLineOf names line s × (head ≡ head_of s)
    × (nodes ≡ nodes_of s)
ReadsStep names line nodes (Err Malformed) = (IsStepForm line → ⊥) × (nodes ≡ [])
ReadsStep names line nodes (Err Foreign) = IsStepForm line × ((s : PlainStep Node) → IsLineOf names line s → ⊥)
    × (nodes ≡ [])
