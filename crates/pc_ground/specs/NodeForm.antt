-- The text of a node, g.n@core:Stage, by its form, and which nodes are of a test and a model.
use Rattle.std.specs.Prelude.{ℕ, ◌≡◌, ◌++◌, List, Result, Ok, Err, map, codes, IsTrue}
use Rattle.pc_common.specs.{World.{Node}, Case.{Case}, Lines.{StageName, Names, node_text}}
use Rattle.pc_syntax.specs.Observable.{IsNodeOf}
use Rattle.uspec_lexer.specs.Bytes.{is_name}
use Rattle.pc_ground.specs.declared.{node_key.NodeKey.{NodeKey}, line_fault.LineFault.{LineFault, TheVariants.{Malformed, Foreign}}, front.Front.{Front}}
use Rattle.pc_ground.specs.{declared.parts.Parts.{Parts}, Keys.{key_node}, Decimals.{IsDecimal}, Stages.{plain_stage, numbers_of}}

-- three decimals and a name, whatever they name
pub record IsNodeForm (word : List ℕ) : Type 0 where
  pub g : List ℕ
  pub n : List ℕ
  pub core : List ℕ
  pub stage : List ℕ
  pub g_number : (k : ℕ) × IsDecimal g k
  pub n_number : (k : ℕ) × IsDecimal n k
  pub core_number : (k : ℕ) × IsDecimal core k
  pub stage_name : IsTrue (is_name stage)
  pub is : word ≡ g ++ codes "." ++ n ++ codes "@" ++ core ++ codes ":" ++ stage

-- what nodes are written by
abbrev pub names_by : Case → List StageName → Names
names_by case stages = record { ops = case.ops; stages = stages }

abbrev pub names_of : Front → Names
names_of front = names_by front.case (map plain_stage front.stages)

abbrev pub names_of_parts : Parts → Names
names_of_parts parts = names_by parts.case (map plain_stage parts.stages)

-- the node's micro-op is the test's, its core is 0 to 63 and its stage is the model's
abbrev pub IsNodeIn : Names → Node → Type 0
IsNodeIn names a = IsNodeOf (numbers_of names.stages) names.ops a

-- what reading a word answers: the node that it is the text of, or why it is none's
abbrev pub ReadsNode : Names → List ℕ → Result NodeKey LineFault → Type 0
ReadsNode names word (Ok key) = IsNodeIn names (key_node key) × (word ≡ node_text names (key_node key))
ReadsNode names word (Err Malformed) = IsNodeForm word → ⊥
ReadsNode names word (Err Foreign) = IsNodeForm word × ((a : Node) → IsNodeIn names a → word ≡ node_text names a → ⊥)

-- each node's text has the form, and no two nodes have one text
pub record AreReadable (names : Names) : Type 0 where
  pub form : (a : Node) → IsNodeIn names a → IsNodeForm (node_text names a)
  pub apart : (a b : Node) → IsNodeIn names a → IsNodeIn names b → node_text names a ≡ node_text names b → a ≡ b

-- it answers this node
abbrev pub Answers : Result NodeKey LineFault → Node → Type 0
Answers (Ok key) a = key_node key ≡ a
Answers (Err fault) a = ⊥
