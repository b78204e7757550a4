-- The words of step lines, and what reading them one by one answers.
use Rattle.std.specs.{Prelude.{ℕ, ◌≡◌, Bool, true, false, List, [], ◌∷◌, ◌++◌, Result, Ok, Err, All, map, codes}, Fmt.{decimal}}
use Rattle.pc_common.specs.{World.{Node}, Steps.{Leaf, cycle, path, absent, false_step, Step as PlainStep, split, close}, Lines.{Names, node_text, sign_text}}
use Rattle.pc_ground.specs.{Decimals.{IsDecimal}, NodeForm.{IsNodeForm, IsNodeIn}, declared.line_fault.LineFault.{LineFault, TheVariants.{Malformed, Foreign}}}
use Rattle.refutation.specs.{Steps.{IsStepIn, HasLine}, Reading.{head_of, nodes_of}, declared.step_head.StepHead.{StepHead}}

abbrev pub words_of_leaf : Names → Leaf Node → List (List ℕ)
words_of_leaf names (cycle nodes) = codes "cycle" ∷ map (node_text names) nodes
words_of_leaf names (path nodes) = codes "path" ∷ map (node_text names) nodes
words_of_leaf names (absent a) = codes "absent" ∷ node_text names a ∷ []
words_of_leaf names false_step = codes "false" ∷ []

-- the words of a step's line
abbrev pub words_of_step : Names → PlainStep Node → List (List ℕ)
words_of_step names (split negated p) = codes "split" ∷ (sign_text negated ++ decimal p) ∷ []
words_of_step names (close l) = words_of_leaf names l

-- these are the words of this step's line, and its nodes are these names'
pub record AreWordsOf (names : Names) (ws : List (List ℕ)) (s : PlainStep Node) : Type 0 where
  pub has_line : HasLine s
  pub inside : IsStepIn names s
  pub are : ws ≡ words_of_step names s

-- the words of a line that has the form of a step line
pub data AreOfForm (ws : List (List ℕ)) : Type 0 where
  of_split : (negated : Bool) (digits : List ℕ) (p : ℕ) → IsDecimal digits p
      → ws ≡ codes "split" ∷ (sign_text negated ++ digits) ∷ []
      → AreOfForm ws
  of_cycle : (a : List ℕ) (more : List (List ℕ)) → All IsNodeForm (a ∷ more) → ws ≡ codes "cycle" ∷ a ∷ more
      → AreOfForm ws
  of_path : (a b : List ℕ) (more : List (List ℕ)) → All IsNodeForm (a ∷ b ∷ more) → ws ≡ codes "path" ∷ a ∷ b ∷ more
      → AreOfForm ws
  of_absence : (a : List ℕ) → IsNodeForm a → ws ≡ codes "absent" ∷ a ∷ [] → AreOfForm ws
  of_falsity : ws ≡ codes "false" ∷ [] → AreOfForm ws

-- these nodes are these names' and spelled by these words
abbrev pub AreSpelled : Names → List (List ℕ) → List Node → Type 0
AreSpelled names ws nodes = All (IsNodeIn names) nodes × (ws ≡ map (node_text names) nodes)

-- what reading words as nodes answers, with the nodes that it leaves
abbrev pub ReadsNodes : Names → List (List ℕ) → List Node → Result Unit LineFault → Type 0
ReadsNodes names ws nodes (Ok done) = AreSpelled names ws nodes
ReadsNodes names ws nodes (Err Malformed) = All IsNodeForm ws → ⊥
ReadsNodes names ws nodes (Err Foreign) = All IsNodeForm ws × ((others : List Node) → AreSpelled names ws others → ⊥)

-- what reading the words of a line answers, with the nodes that it leaves
abbrev pub ReadsWords : Names → List (List ℕ) → List Node → Result StepHead LineFault → Type 0
ReadsWords names ws nodes (Ok head) = (s : PlainStep Node) × AreWordsOf names ws s × (head ≡ head_of s)
    × (nodes ≡ nodes_of s)
ReadsWords names ws nodes (Err Malformed) = AreOfForm ws → ⊥
ReadsWords names ws nodes (Err Foreign) = AreOfForm ws × ((s : PlainStep Node) → AreWordsOf names ws s → ⊥)

-- reading a word as a node answers whether it is one of these names, and then puts it after the nodes
abbrev pub ReadsWord : Names → List ℕ → List Node → List Node → Result Bool LineFault → Type 0
ReadsWord names word old new (Ok true) = (a : Node) × IsNodeIn names a × IsNodeForm word × (word ≡ node_text names a)
    × (new ≡ old ++ a ∷ [])
ReadsWord names word old new (Ok false) = IsNodeForm word
    × ((a : Node) → IsNodeIn names a → word ≡ node_text names a → ⊥) × (new ≡ old)
ReadsWord names word old new (Err fault) = (fault ≡ Malformed) × (IsNodeForm word → ⊥)
