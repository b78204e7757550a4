-- The lines of a lifted refutation.
use Rattle.std.specs.{Prelude.{ℕ, List, [], ◌∷◌, ◌++◌, map, codes}, List.{flat_map, join_with_byte}}
use Rattle.pc_common.specs.Case.{MicroOp}
use Rattle.lifted_facts.specs.{declared.way.{Instance.TheVariants.{Core as CoreInstance}, Way.TheVariants.{Inst}}, Lifted.{LiftedStep, derive}}
use Rattle.lifted_check.specs.{StepLines.{step_words, IsSmall}, LiftedTexts.{Question, header}}

-- the line of a step, without its LF
abbrev pub line_of : List MicroOp → LiftedStep → List ℕ
line_of ops s = join_with_byte 32 (step_words ops s)

abbrev pub lines_of : List MicroOp → List LiftedStep → List (List ℕ)
lines_of ops steps = map (line_of ops) steps

-- each word after a space
abbrev pub spaced_words : List (List ℕ) → List ℕ
spaced_words ws = flat_map (λ w. codes " " ++ w) ws

-- with its LF
abbrev pub line_text : List MicroOp → LiftedStep → List ℕ
line_text ops s = line_of ops s ++ codes "\n"

abbrev pub all_lines : Question → List (List ℕ) → List (List ℕ)
all_lines q lines = header q ++ (lines ++ codes "end" ∷ [])

-- a core that is named has at most 64 bits
abbrev pub HasSmallCore : LiftedStep → Type 0
HasSmallCore (derive (Inst (CoreInstance k)) n) = IsSmall k
HasSmallCore _ = Unit {0}
