-- The parts that a node's text is cut into.
use Rattle.std.specs.{Prelude.{ℕ, ◌≡◌, ◌≤◌, ◌<◌, ◌+◌, ◌++◌, ◌==◌, false, List, ◌∷◌, Some, codes, slice_get}, List.{list_any}, Fmt.{decimal}}
use Rattle.pc_common.specs.{Case.{MicroOp}, World.{Node}, Lines.{StageName, Names}, declared.limits.TheConstants.{MAX_CORE}}
use Rattle.pc_case.specs.MicroOps.{AreMicroOps, IsNamed}
use Rattle.pc_ground.specs.{Stages.{AreStages}, declared.node_words.NodeWords.{NodeWords}}

abbrev pub Lacks : ℕ → List ℕ → Type 0
Lacks mark bytes = list_any (λ c. c == mark) bytes ≡ false

-- before the first byte `mark` stands `front`, and after it `back`
abbrev pub IsCut : ℕ → List ℕ → List ℕ → List ℕ → Type 0
IsCut mark word front back = Lacks mark front × (word ≡ front ++ mark ∷ back)

-- the word is these three numbers, and this after them
pub record AreWords (word : List ℕ) (w : NodeWords) : Type 0 where
  pub g : w.g ≤ 18446744073709551615
  pub n : w.n ≤ 18446744073709551615
  pub core : w.core ≤ 18446744073709551615
  pub is : word ≡ decimal w.g ++ codes "." ++ decimal w.n ++ codes "@" ++ decimal w.core ++ codes ":" ++ w.stage.now

-- a stage of this number and name is listed
abbrev pub IsStage : List StageName → ℕ → List ℕ → Type 0
IsStage stages n name = (k : ℕ) × (slice_get stages k ≡ Some (n, name))

-- the numbers of each micro-op have at most 64 bits
abbrev pub AreSmall : List MicroOp → Type 0
AreSmall ops = (k : ℕ) (o : MicroOp) → slice_get ops k ≡ Some o
    → (o.g ≤ 18446744073709551615) × (o.n ≤ 18446744073709551615)

-- the words name the micro-op, the core and the stage of this node
pub record NamesNode (names : Names) (w : NodeWords) (a : Node) : Type 0 where
  pub op : IsNamed names.ops w.g w.n a.op
  pub core : a.core ≡ w.core
  pub stage : IsStage names.stages a.stage w.stage.now

-- they name no node of a core 0 to 63
abbrev pub NamesNoNode : Names → NodeWords → Type 0
NamesNoNode names w = (a : Node) → a.core < MAX_CORE + 1 → NamesNode names w a → ⊥

-- what the type of a node text keeps of its names
pub record AreKept (names : Names) : Type 0 where
  pub small : AreSmall names.ops
  pub kept : AreMicroOps names.ops
  pub stages : AreStages names.stages
