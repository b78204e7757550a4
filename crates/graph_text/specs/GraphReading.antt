-- The lines of a whole graph, and what reading them answers.
use Rattle.std.specs.Prelude.{ℕ, ◌≡◌, List, All, Result, Ok, Err, map, ⊤}
use Rattle.pc_common.specs.{Lines.{Names, line_words, lines_text}, Generated.{HasEnds}}
use Rattle.pc_ground.specs.NodeForm.{IsNodeIn, AreReadable}
use Rattle.line_judge.specs.Texts.{IsRefusedAt}
use Rattle.graph_text.specs.{Graphs.{graph_lines, graph_nodes, graph_edges}, OpenGraphs.{PlainGraph}, declared.graph.Graph.{Graph}}
use Rattle.graph_text.specs.declared.graph_fault.GraphFault.{GraphFault, TheVariants.{Line as at_line, Memory}}

-- the graph's nodes are of these names, and each of its edges joins two of them
pub record IsGraphIn (names : Names) (g : PlainGraph) : Type 0 where
  pub of_names : All (IsNodeIn names) g.nodes
  pub ends : HasEnds g.nodes g.edges

-- these are the lines of this graph, without their LFs
pub record AreLinesOf (names : Names) (g : PlainGraph) (lines : List (List ℕ)) : Type 0 where
  pub graph : IsGraphIn names g
  pub lines_are : lines ≡ map (line_words names) (graph_lines g.nodes g.edges)

-- these are the lines of some graph
abbrev pub AreGraphLines : Names → List (List ℕ) → Type 0
AreGraphLines names lines = (g : PlainGraph) × AreLinesOf names g lines

-- the graph was read off these lines
pub record IsTakenBy (names : Names) (g : PlainGraph) (lines : List (List ℕ)) : Type 0 where
  pub readable : AreReadable names
  pub taken : AreLinesOf names g lines

-- this is the text of this graph
pub record IsTextOf (names : Names) (text : List ℕ) (g : PlainGraph) : Type 0 where
  pub graph : IsGraphIn names g
  pub text_is : text ≡ lines_text names (graph_lines g.nodes g.edges)

abbrev pub plain_graph : Graph → PlainGraph
plain_graph g = record { nodes = graph_nodes g; edges = graph_edges g }

-- what reading a text answers: the graph that it is the text of, or the first line that is refused
abbrev pub ReadsGraph : Names → List ℕ → Result Graph GraphFault → Type 0
ReadsGraph names text (Ok g) = IsTextOf names text (plain_graph g)
ReadsGraph names text (Err (at_line n)) = IsRefusedAt (AreGraphLines names) (AreGraphLines names) text n
ReadsGraph names text (Err Memory) = ⊤

-- it answers this graph, or that memory was refused
abbrev pub AnswersGraph : Result Graph GraphFault → PlainGraph → Type 0
AnswersGraph (Ok g) h = plain_graph g ≡ h
AnswersGraph (Err (at_line n)) h = ⊥
AnswersGraph (Err Memory) h = ⊤
