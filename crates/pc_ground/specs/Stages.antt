-- The stages of a model: their numbers and names, and that axioms name no others.
use Rattle.std.specs.Prelude.{ℕ, ◌≡◌, ◌<◌, List, [], ◌∷◌, Some, map, slice_get, IsTrue}
use Rattle.pc_common.specs.Lines.{StageName}
use Rattle.pc_syntax.specs.{declared.closed.Closed.{Closed}, Closed.{PlainClosed, plain_closed}, StagesWithin.{StagesWithin}}
use Rattle.uspec_lexer.specs.Bytes.{is_name}
use Rattle.pc_ground.specs.declared.stage.Stage.{Stage}

abbrev pub plain_stage : Stage → StageName
plain_stage s = (s.number, s.name)

abbrev pub plain_axioms : List Closed → List PlainClosed
plain_axioms axioms = map (λ a. plain_closed a.body) axioms

-- each number is below 64 and each name is one, and no two stages have one number or one name
pub record AreStages (stages : List StageName) : Type 0 where
  pub numbers : (k : ℕ) (s : StageName) → slice_get stages k ≡ Some s → s.0 < 64
  pub names : (k : ℕ) (s : StageName) → slice_get stages k ≡ Some s → IsTrue (is_name s.1)
  pub one_number : (j k : ℕ) (s t : StageName) → slice_get stages j ≡ Some s → slice_get stages k ≡ Some t → s.0 ≡ t.0
      → j ≡ k
  pub one_name : (j k : ℕ) (s t : StageName) → slice_get stages j ≡ Some s → slice_get stages k ≡ Some t → s.1 ≡ t.1
      → j ≡ k

abbrev pub numbers_of : List StageName → List ℕ
numbers_of stages = map (λ s. s.0) stages

-- each stage that the axioms name has one of these numbers
abbrev pub AxiomsWithin : List ℕ → List PlainClosed → Type 0
AxiomsWithin numbers [] = Unit {0}
AxiomsWithin numbers (p ∷ ps) = StagesWithin numbers p × AxiomsWithin numbers ps
