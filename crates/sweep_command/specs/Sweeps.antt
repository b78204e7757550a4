-- What the answers of a sweep say of closed axioms.
use Rattle.std.specs.Prelude.{◌≡◌, ℕ, Bool, true, false, List, Some, length, slice_get, IsTrue}
use Rattle.pc_common.specs.{Case.{Case}, World.{Node, World, IsWorld}}
use Rattle.pc_syntax.specs.Closed.{PlainClosed, closed_satisfies}
use Rattle.solver.specs.declared.search.answer.Answer.{Answer, TheVariants.{Observable, Unobservable}}
use Rattle.pattern_reader.specs.Rows.{Pattern, rows_of, row_case}

-- some world makes every axiom true of the case
abbrev pub IsShown : List PlainClosed → Case → Type 0
IsShown axioms c = (w : World Node) × IsWorld w × IsTrue (closed_satisfies axioms c w)

-- yes exactly where some world does
abbrev pub IsAnswerTo : List PlainClosed → Case → Bool → Type 0
IsAnswerTo axioms c true = IsShown axioms c
IsAnswerTo axioms c false = IsShown axioms c → ⊥

-- one answer for each row, in order, and each of its row's case
pub record AreAnswers (axioms : List PlainClosed) (p : Pattern) (answers : List Bool) : Type 0 where
  pub count : length answers ≡ rows_of p
  pub each : (k : ℕ) (b : Bool) → slice_get answers k ≡ Some b → IsAnswerTo axioms (row_case p k) b

-- whether a search found a graph
abbrev pub is_graph : Answer → Bool
is_graph (Observable graph) = true
is_graph (Unobservable steps) = false
