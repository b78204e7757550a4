-- The lines of a graph one after another: which may stand next, and what a graph is with one line more.
use Rattle.std.specs.Prelude.{ℕ, ◌≡◌, ◌↔◌, ◌++◌, Bool, List, [], ◌∷◌, map, Contains, MatchBool}
use Rattle.pc_common.specs.{World.{Node, Edge}, Lines.{Names, Line, verdict, second, node, edge, version_two, step, end, line_words}, Generated.{HasEnds}}
use Rattle.pc_ground.specs.{Keys.{key_node}, declared.node_key.NodeKey.{NodeKey}}
use Rattle.graph_text.specs.{Graphs.{graph_lines}, GraphTexts.{IsGraphLineIn}}

-- a graph over plain nodes
pub record PlainGraph : Type 0 where
  pub nodes : List Node
  pub edges : List Edge

-- the graph of no line
abbrev pub empty_graph : PlainGraph
empty_graph = record { nodes = []; edges = [] }

-- the line may stand next: a node line where there is no edge yet, an edge line where both ends are listed
abbrev pub Follows : PlainGraph → Line → Type 0
Follows g (verdict v) = ⊥
Follows g (second v e) = ⊥
Follows g (node a) = g.edges ≡ []
Follows g (edge a b) = Contains g.nodes a × Contains g.nodes b
Follows g version_two = ⊥
Follows g (step s) = ⊥
Follows g end = ⊥

-- the line may stand next, and with it last the old graph's lines are the new one's
pub record IsWithLine (old new : PlainGraph) (line : Line) : Type 0 where
  pub follows : Follows old line
  pub lines : graph_lines new.nodes new.edges ≡ graph_lines old.nodes old.edges ++ line ∷ []

-- the text is a line of these names that may stand next, and the new graph has it last
pub record Takes (names : Names) (text : List ℕ) (old new : PlainGraph) : Type 0 where
  pub line : Line
  pub of_names : IsGraphLineIn names line
  pub text_is : text ≡ line_words names line
  pub put : IsWithLine old new line

-- no line of these names that may stand next has this text
abbrev pub Refuses : Names → List ℕ → PlainGraph → Type 0
Refuses names text g = (line : Line) → IsGraphLineIn names line → Follows g line → text ≡ line_words names line → ⊥

-- what came of putting a line last: the new graph has it, or it may not stand next and nothing changed
abbrev pub HasPut : PlainGraph → Line → PlainGraph → Bool → Type 0
HasPut old line new put = MatchBool put (IsWithLine old new line) ((Follows old line → ⊥) × (new ≡ old))

-- what came of a text: the new graph has its line last, or no line that may stand next has it and nothing changed
abbrev pub HasTakenText : Names → List ℕ → PlainGraph → PlainGraph → Bool → Type 0
HasTakenText names text old new taken = MatchBool taken (Takes names text old new) (Refuses names text old × (new ≡ old))

-- the keys are those of the nodes listed, and each edge joins two of these
pub record IsOpen (keys : List NodeKey) (nodes : List Node) (edges : List Edge) : Type 0 where
  pub listed : (a : Node) → Contains (map key_node keys) a ↔ Contains nodes a
  pub ends : HasEnds nodes edges
