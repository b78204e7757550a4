-- A front with one axiom more, with what the search finds of it, and what is asked of a front.
use Rattle.std.specs.Prelude.{◌≡◌, List, [], ◌∷◌, ◌++◌}
use Rattle.pc_common.specs.Case.{Case}
use Rattle.pc_syntax.specs.Closed.{PlainClosed, closed_not}
use Rattle.pc_ground.specs.{declared.{front.Front.{Front}, stage.Stage.{Stage}}, Stages.{plain_axioms}}
use Rattle.solver.specs.declared.search.answer.Answer.{Answer, TheVariants.{Observable, Unobservable}}
use Rattle.search_trait.specs.Found.{IsFound}
use Rattle.ask_command.specs.declared.outcome.{Asked.{Asked}, AskWord.{AskWord, TheVariants.{Always, Never, Sometimes, Vacuous}}}

-- the front of this case, these stages and these axioms, with this one as its last
pub record IsFrontMore (c : Case) (stages : List Stage) (ps : List PlainClosed) (p : PlainClosed) (front : Front) : Type 0 where
  pub case : front.case ≡ c
  pub stages_are : front.stages ≡ stages
  pub axioms : plain_axioms front.axioms ≡ ps ++ p ∷ []

-- with what the search finds of it
abbrev pub IsFoundMore : Case → List Stage → List PlainClosed → PlainClosed → Front × Answer → Type 0
IsFoundMore c stages ps p r = IsFrontMore c stages ps p r.0 × IsFound r.0 r.1

-- what is found with the formula, and with its denial
pub record IsAsked (c : Case) (stages : List Stage) (ps : List PlainClosed) (p : PlainClosed) (asked : Asked) : Type 0 where
  pub added : IsFoundMore c stages ps p asked.added
  pub against : IsFoundMore c stages ps (closed_not p) asked.against

-- by what is found with the formula, and with its denial
abbrev pub word_of : Answer → Answer → AskWord
word_of (Observable g) (Observable h) = Sometimes
word_of (Observable g) (Unobservable s) = Always
word_of (Unobservable r) (Observable h) = Never
word_of (Unobservable r) (Unobservable s) = Vacuous
