-- The lines of a graph as they are read: which texts have their form, and what reading one answers.
use Rattle.std.specs.Prelude.{ℕ, ◌≡◌, ◌++◌, List, ◌∷◌, Result, Ok, Err, codes}
use Rattle.pc_common.specs.{World.{Node}, Lines.{Names, Line, verdict, second, node, edge, version_two, step, end, node_text, line_words}}
use Rattle.pc_ground.specs.{Keys.{key_node}, NodeForm.{IsNodeForm, IsNodeIn}, declared.{node_key.NodeKey.{NodeKey}, line_fault.LineFault.{LineFault}}}
use Rattle.pc_ground.specs.declared.line_fault.LineFault.TheVariants.{Malformed, Foreign}
use Rattle.graph_text.specs.declared.graph_line.GraphLine.{GraphLine, TheVariants.{Node as a_node, Edge as an_edge}}

-- the byte between two words
abbrev pub space : ℕ
space = 32

-- a graph's line as a certificate's
abbrev pub plain_line : GraphLine → Line
plain_line (a_node a) = node (key_node a)
plain_line (an_edge a b) = edge (key_node a) (key_node b)

-- a node line or an edge line, whose nodes are of these names
abbrev pub IsGraphLineIn : Names → Line → Type 0
IsGraphLineIn names (verdict v) = ⊥
IsGraphLineIn names (second v e) = ⊥
IsGraphLineIn names (node a) = IsNodeIn names a
IsGraphLineIn names (edge a b) = IsNodeIn names a × IsNodeIn names b
IsGraphLineIn names version_two = ⊥
IsGraphLineIn names (step s) = ⊥
IsGraphLineIn names end = ⊥

-- two words that have the form of a node's text, and a space between, whatever they name
pub record AreEndsForm (words : List ℕ) : Type 0 where
  pub from : List ℕ
  pub to : List ℕ
  pub from_form : IsNodeForm from
  pub to_form : IsNodeForm to
  pub is : words ≡ from ++ space ∷ to

-- the form of a graph's line, whatever its nodes name
pub data IsGraphForm (line : List ℕ) : Type 0 where
  of_node : (word : List ℕ) → IsNodeForm word → line ≡ codes "node" ++ space ∷ word → IsGraphForm line
  of_edge : (words : List ℕ) → AreEndsForm words → line ≡ codes "edge" ++ space ∷ words → IsGraphForm line

-- what reading a line answers: the graph's line that it is the text of, or why it is none's
abbrev pub ReadsLine : Names → List ℕ → Result GraphLine LineFault → Type 0
ReadsLine names line (Ok l) = IsGraphLineIn names (plain_line l) × (line ≡ line_words names (plain_line l))
ReadsLine names line (Err Malformed) = IsGraphForm line → ⊥
ReadsLine names line (Err Foreign) = IsGraphForm line
    × ((l : Line) → IsGraphLineIn names l → line ≡ line_words names l → ⊥)

-- it answers this line
abbrev pub AnswersLine : Result GraphLine LineFault → Line → Type 0
AnswersLine (Ok l) line = plain_line l ≡ line
AnswersLine (Err fault) line = ⊥

-- both nodes are of these names
abbrev pub AreEndsIn : Names → Node → Node → Type 0
AreEndsIn names a b = IsNodeIn names a × IsNodeIn names b

-- the texts of two nodes, a space between
abbrev pub ends_words : Names → Node → Node → List ℕ
ends_words names a b = node_text names a ++ space ∷ node_text names b

-- what reading two words answers: the nodes that they are the texts of, or why they are none's
abbrev pub ReadsEnds : Names → List ℕ → Result (NodeKey × NodeKey) LineFault → Type 0
ReadsEnds names words (Ok (from, to)) = AreEndsIn names (key_node from) (key_node to)
    × (words ≡ ends_words names (key_node from) (key_node to))
ReadsEnds names words (Err Malformed) = AreEndsForm words → ⊥
ReadsEnds names words (Err Foreign) = AreEndsForm words
    × ((a b : Node) → AreEndsIn names a b → words ≡ ends_words names a b → ⊥)

-- it answers the two nodes of these names whose texts the words are
abbrev pub AnswersEnds : Names → List ℕ → Result (NodeKey × NodeKey) LineFault → Type 0
AnswersEnds names words (Ok (from, to)) = (a b : Node) → AreEndsIn names a b → words ≡ ends_words names a b
    → (key_node from ≡ a) × (key_node to ≡ b)
AnswersEnds names words (Err fault) = (a b : Node) → AreEndsIn names a b → words ≡ ends_words names a b → ⊥

-- a node that was read, as a line
abbrev pub as_node : Result NodeKey LineFault → Result GraphLine LineFault
as_node (Ok key) = Ok (a_node key)
as_node (Err fault) = Err fault

-- two nodes that were read, as a line
abbrev pub as_edge : Result (NodeKey × NodeKey) LineFault → Result GraphLine LineFault
as_edge (Ok (from, to)) = Ok (an_edge from to)
as_edge (Err fault) = Err fault

-- two words that were read: both nodes, or the worse of the faults
abbrev pub both_ends : Result NodeKey LineFault → Result NodeKey LineFault → Result (NodeKey × NodeKey) LineFault
both_ends (Ok from) (Ok to) = Ok (from, to)
both_ends (Ok from) (Err Malformed) = Err Malformed
both_ends (Ok from) (Err Foreign) = Err Foreign
both_ends (Err Malformed) read = Err Malformed
both_ends (Err Foreign) (Ok to) = Err Foreign
both_ends (Err Foreign) (Err Malformed) = Err Malformed
both_ends (Err Foreign) (Err Foreign) = Err Foreign
