-- What an order graph is seen as: its literals, its marks, and how many words were recorded for them.
use Rattle.std.specs.Prelude.{ℕ, ◌≡◌, ◌≤◌, ◌+◌, ◌-◌, ◌*◌, ◌/◌, List, [], ◌∷◌, ◌++◌, length, take, slice_index, All}
use Rattle.pc_ground.specs.{declared.literal.Literal.{Literal}, Literals.{IsConsistent}}
use Rattle.order_graph.specs.Ways.{IsBelow}

pub record Graph : Type 0 where
  -- nodes are the numbers below this
  pub nodes : ℕ
  -- in the order of their assertion
  pub literals : List (Literal ℕ)
  -- how many literals there were at each mark; a mark is a place in this list
  pub marks : List ℕ
  -- how many words were recorded when the first k literals stood, for each k
  pub recorded : List ℕ

-- how many words the bits of n nodes take
abbrev pub words_for : ℕ → ℕ
words_for n = (n + 63) / 64

-- at most so many words are recorded for one literal
abbrev pub most_words : ℕ → ℕ
most_words n = n * (words_for n + 1) + 2

-- words recorded since the first k literals stood
abbrev pub recorded_since : Graph → ℕ → ℕ
recorded_since g k = slice_index g.recorded (length g.literals) - slice_index g.recorded k

-- the literal is the last one, and the marks are as they were
pub record IsPushed (old : Graph) (l : Literal ℕ) (new : Graph) : Type 0 where
  pub same_nodes : new.nodes ≡ old.nodes
  pub literals : new.literals ≡ old.literals ++ l ∷ []
  pub marks : new.marks ≡ old.marks
  pub recorded : take (length old.recorded) new.recorded ≡ old.recorded
  pub words : recorded_since new (length old.literals) ≤ most_words old.nodes

-- the graph is cut to k literals and to the first marks
pub record IsCut (old : Graph) (k mark : ℕ) (new : Graph) : Type 0 where
  pub same_nodes : new.nodes ≡ old.nodes
  pub literals : new.literals ≡ take k old.literals
  pub marks : new.marks ≡ take (mark + 1) old.marks
  pub recorded : new.recorded ≡ take (k + 1) old.recorded

-- what the literals of a graph keep
pub record IsGraph (g : Graph) : Type 0 where
  pub consistent : IsConsistent g.literals
  pub below : All (IsBelow g.nodes) g.literals
