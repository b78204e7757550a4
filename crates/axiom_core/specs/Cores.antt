-- A minimal set of axioms that forbids an outcome, with a certificate of each of its claims.
use Rattle.std.specs.Prelude.{ℕ, ◌≡◌, ◌<◌, List, [], ◌∷◌, length, IsTrue}
use Rattle.pc_common.specs.{Case.{Case}, World.{Node, World, IsWorld}, Steps.{Step}}
use Rattle.pc_syntax.specs.Closed.{PlainClosed, closed_satisfies}
use Rattle.pc_ground.specs.{declared.front.Front.{Front}, Stages.{plain_axioms}}
use Rattle.graph_text.specs.declared.graph.Graph.{Graph}
use Rattle.solver.specs.declared.search.answer.Answer.TheVariants.{Observable, Unobservable}
use Rattle.search_trait.specs.Found.{IsFound}
use Rattle.axiom_core.specs.{declared.answer.Core.{Core, TheVariants.{None as no_core, Minimal}}, Chosen.{Choice, taken, among, less, AreRising}}

-- the closed axioms are all true in some world
abbrev pub Allow : Case → List PlainClosed → Type 0
Allow c ps = (w : World Node) × IsWorld w × IsTrue (closed_satisfies ps c w)

-- and in none
abbrev pub Forbid : Case → List PlainClosed → Type 0
Forbid c ps = (w : World Node) → IsWorld w → IsTrue (closed_satisfies ps c w) → ⊥

-- the chosen axioms forbid, and without any one of them the others allow
pub record IsMinimal (c : Case) (ps : List PlainClosed) (keep : Choice) : Type 0 where
  pub forbidden : Forbid c (taken keep ps)
  pub needed : (i : ℕ) → i < length ps → IsTrue (keep i) → Allow c (taken (less i keep) ps)

-- the front of the chosen axioms of a front, in the same case and over the same stages
pub record IsFrontWith (front : Front) (keep : Choice) (part : Front) : Type 0 where
  pub case : part.case ≡ front.case
  pub stages : part.stages ≡ front.stages
  pub axioms : plain_axioms part.axioms ≡ taken keep (plain_axioms front.axioms)

-- the chosen axioms have this refutation, which is of their own ground tree
abbrev pub IsRefutedWith : Front → Choice → Front × List (Step Node) → Type 0
IsRefutedWith front keep r = IsFrontWith front keep r.0 × IsFound r.0 (Unobservable r.1)

-- the chosen axioms have this graph, which is of nodes of their own ground tree
abbrev pub IsShownWith : Front → Choice → Front × Graph → Type 0
IsShownWith front keep s = IsFrontWith front keep s.0 × IsFound s.0 (Observable s.1)

-- for each of these numbers, in order, there is the graph of the chosen axioms without the one of that number
abbrev pub AreShownWithout : Front → Choice → List ℕ → List (Front × Graph) → Type 0
AreShownWithout front keep [] [] = Unit {0}
AreShownWithout front keep (i ∷ is) (s ∷ ss) = IsShownWith front (less i keep) s × AreShownWithout front keep is ss
AreShownWithout front keep [] (s ∷ ss) = ⊥
AreShownWithout front keep (i ∷ is) [] = ⊥

-- the axioms of these numbers are a minimal set, with its refutation and, for each of them, a graph without it
pub record IsCore (front : Front) (kept : List ℕ) (tree : Front × List (Step Node)) (graphs : List (Front × Graph)) : Type 0 where
  pub rising : AreRising 0 (length front.axioms) kept
  pub minimal : IsMinimal front.case (plain_axioms front.axioms) (among kept)
  pub refuted : IsRefutedWith front (among kept) tree
  pub without : AreShownWithout front (among kept) kept graphs

-- a graph of the whole front, or a minimal set of its axioms
abbrev pub IsCoreOf : Front → Core → Type 0
IsCoreOf front (no_core graph) = IsFound front (Observable graph)
IsCoreOf front (Minimal kept refuted without) = IsCore front kept refuted without

abbrev pub HasNone : Core → Type 0
HasNone (no_core graph) = Unit {0}
HasNone (Minimal kept refuted without) = ⊥
