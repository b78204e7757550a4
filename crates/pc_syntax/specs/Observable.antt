-- Which worlds satisfy a model, and when a test's outcome is observable.
use Rattle.std.specs.{Prelude.{ℕ, ◌+◌, ◌<◌, Bool, List, [], ◌∷◌, length, reverse, All, Contains, IsTrue}, List.{flat_map}}
use Rattle.pc_common.specs.{Case.{MicroOp, Case}, World.{Node, World, IsWorld}, declared.limits.TheConstants.{MAX_CORE}}
use Rattle.pc_syntax.specs.{Written.{Written, MacroAt, WrittenItem, axiom_, macro_, stage_numbers, WrittenModel}, Truth.{Setting, are_true}}

abbrev pub axiom_of : WrittenItem → List Written
axiom_of (axiom_ at body) = body ∷ []
axiom_of (macro_ m) = []

abbrev pub macro_of : WrittenItem → List MacroAt
macro_of (axiom_ at body) = []
macro_of (macro_ m) = m ∷ []

abbrev pub axioms_of : WrittenModel → List Written
axioms_of m = flat_map axiom_of m.items

-- all macros of the file, in the text's order
abbrev pub macros_in_order : WrittenModel → List MacroAt
macros_in_order m = flat_map macro_of m.items

-- all macros of the file, latest first
abbrev pub macros_of : WrittenModel → List MacroAt
macros_of m = reverse (macros_in_order m)

abbrev pub setting : WrittenModel → Case → World Node → Setting
setting m c w = record { stages = m.stages; case = c; world = w }

-- every axiom is true, with all macros of the file
abbrev pub satisfies : WrittenModel → Case → World Node → Bool
satisfies m c w = are_true (setting m c w) (macros_of m) (axioms_of m)

-- the node's micro-op is one of these, its core is in range and its stage has one of these numbers
pub record IsNodeOf (stages : List ℕ) (ops : List MicroOp) (a : Node) : Type 0 where
  pub op_of_test : a.op < length ops
  pub core_in_range : a.core < MAX_CORE + 1
  pub stage_of_model : Contains stages a.stage

abbrev pub IsWorldOf : List ℕ → List MicroOp → World Node → Type 0
IsWorldOf stages ops w = IsWorld w × All (IsNodeOf stages ops) w.nodes

-- some world over these stages and micro-ops satisfies
abbrev pub IsObservable : List ℕ → List MicroOp → (World Node → Bool) → Type 0
IsObservable stages ops satisfied = (w : World Node) × IsWorldOf stages ops w × IsTrue (satisfied w)

abbrev pub Observable : WrittenModel → Case → Type 0
Observable m c = IsObservable (stage_numbers m.stages) c.ops (satisfies m c)
