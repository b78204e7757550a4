-- What a word says of a formula over worlds.
use Rattle.std.specs.Prelude.{◌≡◌, Bool, true, false, List, [], IsTrue}
use Rattle.pc_common.specs.{Case.{Case}, World.{Node, World, IsWorld}}
use Rattle.pc_syntax.specs.Closed.{PlainClosed, closed_true, closed_satisfies}
use Rattle.pc_ground.specs.declared.stage.Stage.{Stage}
use Rattle.ask_command.specs.{declared.outcome.{Asked.{Asked}, AskWord.{AskWord, TheVariants.{Always, Never, Sometimes, Vacuous}}}, Asking.{IsAsked, word_of}}

module _ (Allowed : World Node → Type 0) (holds : World Node → Bool) where
  -- some world is allowed, and the formula has this value in it
  abbrev pub Somewhere : Bool → Type 0
  Somewhere b = (w : World Node) × Allowed w × (holds w ≡ b)

  -- the formula has this value in all allowed worlds
  abbrev pub Everywhere : Bool → Type 0
  Everywhere b = (w : World Node) → Allowed w → holds w ≡ b

  abbrev pub NoWorld : Type 0
  NoWorld = (w : World Node) → Allowed w → ⊥

  -- over the allowed worlds: where there is none it is vacuous, else the formula is true in all, in none, or in some
  abbrev pub IsWord : AskWord → Type 0
  IsWord Always = Somewhere true × Everywhere true
  IsWord Never = Somewhere false × Everywhere false
  IsWord Sometimes = Somewhere true × Somewhere false
  IsWord Vacuous = NoWorld

-- a world in which the closed axioms are true
abbrev pub IsClosedWorld : Case → List PlainClosed → World Node → Type 0
IsClosedWorld c ps w = IsWorld w × IsTrue (closed_satisfies ps c w)

-- the word that the answers tell is the one of the formula
abbrev pub WordsAreTrue : Type 0
WordsAreTrue =
    (c : Case) (stages : List Stage) (ps : List PlainClosed) (p : PlainClosed) (a : Asked) → IsAsked c stages ps p a
    → IsWord (IsClosedWorld c ps) (λ w. closed_true c w [] p) (word_of a.added.1 a.against.1)
