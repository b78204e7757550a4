-- Laws of lifted refutations.
use Rattle.std.specs.Prelude.{◌≡◌, ◌↔◌, List, ◌++◌, IsTrue}
use Rattle.pc_common.specs.{Case.{Case}, World.{Node, World, IsWorld}}
use Rattle.pc_syntax.specs.Closed.{PlainClosed, closed_satisfies}
use Rattle.lifted_facts.specs.{PlainFacts.{Branch}, Lifted.{LiftedStep, Runs, IsLiftedRefutation}}

-- axioms that have a lifted refutation are together true in no world
abbrev pub LiftedIsSound : Type 0
LiftedIsSound =
    (c : Case) (axioms : List PlainClosed) (steps : List LiftedStep) → IsLiftedRefutation c axioms steps
    → (w : World Node) → IsWorld w → IsTrue (closed_satisfies axioms c w) → ⊥

-- a first part of the steps leads to some branches, and the rest leads from there on
abbrev pub RunsAreJoined : Type 0
RunsAreJoined =
    (c : Case) (xs ys : List LiftedStep) (opens rest : List Branch)
    → Runs c (xs ++ ys) opens rest ↔ ((mid : List Branch) × Runs c xs opens mid × Runs c ys mid rest)

-- the steps lead to one list of branches
abbrev pub OneListIsLeft : Type 0
OneListIsLeft =
    (c : Case) (steps : List LiftedStep) (opens one other : List Branch)
    → Runs c steps opens one → Runs c steps opens other → one ≡ other
