-- A fact is unfolded: what its tree asserts is known.
use Rattle.std.specs.Prelude.{ℕ, ◌+◌, true, false, Some, List}
use Rattle.pc_common.specs.{Case.{Case}, World.{Node}}
use Rattle.pc_ground.specs.declared.{row.Row.{Row}, literal.Literal.{Literal}}
use Rattle.pc_ground.specs.{declared.literal.Literal.TheVariants.{Node as a_node, Edge as an_edge, NoNode as not_node, NoEdge as not_edge}, Rows.{IsPart}, Tree.{Tree}}
use Rattle.pc_ground.specs.Refutes.{asserted}
use Rattle.lifted_facts.specs.PlainFacts.{PlainFact, one_node, one_edge}
use Rattle.lifter.specs.{PartLists.{facts_from}, declared.state.State.{State}, KnownFacts.{Entry, TellsAll, HaveMore}, States.{Moves}}

-- the fact that a literal is
abbrev pub fact_of : Literal Node → PlainFact
fact_of (a_node a) = one_node true (Some a)
fact_of (an_edge a b) = one_edge true (Some a) (Some b)
fact_of (not_node a) = one_node false (Some a)
fact_of (not_edge a b) = one_edge false (Some a) (Some b)

-- a tree that stands at a position is unfolded
pub record HasUnfolded (c : Case) (rows : List (Row Node)) (t : Tree Node) (at : ℕ) (old new : State) : Type 0 where
  pub moves : Moves c rows old new
  pub told : TellsAll rows new.known (asserted t at)

-- the fact at a place is unfolded, and those after it stand further on
pub record HasTaken (c : Case) (rows : List (Row Node)) (fs : List PlainFact) (k at next : ℕ) (old new : State) : Type 0 where
  pub moves : Moves c rows old new
  pub stands : IsPart rows next (facts_from c fs (k + 1))
  pub told : (es : List Entry) → HaveMore new.known es → TellsAll rows es (asserted (facts_from c fs (k + 1)) next)
      → TellsAll rows es (asserted (facts_from c fs k) at)
