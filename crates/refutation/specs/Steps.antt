-- The code's steps over plain nodes, their lines, and how many branches a list of steps leaves open.
use Rattle.std.specs.Prelude.{ℕ, ◌+◌, ◌-◌, ◌≤◌, List, [], ◌∷◌, map, fold, All}
use Rattle.pc_common.specs.{World.{Node}, Steps.{Leaf, cycle, path, absent, false_step, Step as PlainStep, split, close}}
use Rattle.pc_common.specs.Lines.{Names, line_text, step as step_line}
use Rattle.pc_ground.specs.{NodeForm.{IsNodeIn}, Keys.{key_node}}
use Rattle.refutation.specs.declared.{step.Step.{Step, TheVariants.{Split, Cycle, Path, Absent, False}}, kind.Leaf.{Leaf as AnyLeaf}}
use Rattle.refutation.specs.declared.kind.{Leaf.TheVariants.{Cycle as a_cycle, Path as a_path, Absent as an_absence, False as a_falsity}, Kind.{Kind}}
use Rattle.refutation.specs.declared.kind.Kind.TheVariants.{Split as a_split, Close}

abbrev pub plain_step : Step → PlainStep Node
plain_step (Split negated p) = split negated p
plain_step (Cycle nodes) = close (cycle (map key_node nodes))
plain_step (Path nodes) = close (path (map key_node nodes))
plain_step (Absent a) = close (absent (key_node a))
plain_step False = close false_step

-- a leaf of the code, with its keys as plain nodes
abbrev pub plain_leaf : AnyLeaf → Leaf Node
plain_leaf (a_cycle nodes) = cycle (map key_node nodes.now)
plain_leaf (a_path nodes) = path (map key_node nodes.now)
plain_leaf (an_absence node) = absent (key_node node)
plain_leaf a_falsity = false_step

-- what a step does, as a plain step
abbrev pub plain_kind : Kind → PlainStep Node
plain_kind (a_split negated p) = split negated p
plain_kind (Close leaf) = close (plain_leaf leaf)

-- the leaf has as many nodes as its line asks for: a cycle one at least, a path two at least
abbrev pub HasItsNodes : Leaf Node → Type 0
HasItsNodes (cycle []) = ⊥
HasItsNodes (cycle (a ∷ more)) = Unit {0}
HasItsNodes (path []) = ⊥
HasItsNodes (path (a ∷ [])) = ⊥
HasItsNodes (path (a ∷ b ∷ more)) = Unit {0}
HasItsNodes (absent a) = Unit {0}
HasItsNodes false_step = Unit {0}

-- the step closes a branch, and has as many nodes as its line asks for
abbrev pub IsLeaf : PlainStep Node → Type 0
IsLeaf (split negated p) = ⊥
IsLeaf (close l) = HasItsNodes l

-- a line can say the step: a split's position has at most 64 bits, and a leaf has its nodes
abbrev pub HasLine : PlainStep Node → Type 0
HasLine (split negated p) = p ≤ 18446744073709551615
HasLine (close l) = HasItsNodes l

-- how many branches are open after a step, where so many were before it
abbrev pub open_after : ℕ → PlainStep Node → ℕ
open_after n (split negated p) = n + 1
open_after n (close l) = n - 1

abbrev pub open_branches : List (PlainStep Node) → ℕ
open_branches steps = fold open_after 1 steps

abbrev pub step_text : Names → PlainStep Node → List ℕ
step_text names s = line_text names (step_line s)

-- the leaf's nodes are these names'
abbrev pub IsLeafIn : Names → Leaf Node → Type 0
IsLeafIn names (cycle nodes) = All (IsNodeIn names) nodes
IsLeafIn names (path nodes) = All (IsNodeIn names) nodes
IsLeafIn names (absent a) = IsNodeIn names a
IsLeafIn names false_step = Unit {0}

-- the step's nodes are these names'
abbrev pub IsStepIn : Names → PlainStep Node → Type 0
IsStepIn names (split negated p) = Unit {0}
IsStepIn names (close l) = IsLeafIn names l
