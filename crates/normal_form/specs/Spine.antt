-- A formula as its right side: the connectives from the root on, each with its left part, and the end.
use Rattle.std.specs.Prelude.{Bool, true, false, List, [], ◌∷◌}
use Rattle.pc_common.specs.World.{Node}
use Rattle.pc_ground.specs.{Tree.{Tree, always, never, leaf}, Keys.{literal_node}, PlainGround.{plain_ground, pushed, folded, conjoined, disjoined}}
use Rattle.pc_ground.specs.declared.row.RowKind.{RowKind, TheVariants.{And as KindAnd, Or as KindOr}}
use Rattle.normal_form.specs.declared.{joint.{Junction.{Junction, TheVariants.{And, Or}}, Joint.{Joint}}, spine.End.{End, TheVariants.{Constant, Lit}}}

-- the connective itself (true), or under a negation the other one
abbrev pub under : Bool → Junction → Junction
under true c = c
under false And = Or
under false Or = And

abbrev pub row_kind : {N : Type 0} → Junction → RowKind N
row_kind And = KindAnd
row_kind Or = KindOr

-- the constant that changes nothing
abbrev pub neutral : Junction → Bool
neutral And = true
neutral Or = false

-- two trees under a junction, with constants folded
abbrev pub junction_of : {N : Type 0} → Junction → Tree N → Tree N → Tree N
junction_of And a b = conjoined a b
junction_of Or a b = disjoined a b

abbrev pub constant_tree : {N : Type 0} → Bool → Tree N
constant_tree true = always
constant_tree false = never

abbrev pub end_tree : End → Tree Node
end_tree (Constant value) = constant_tree value
end_tree (Lit l) = leaf (literal_node l)

-- what stands on the left of a joint
abbrev pub left_tree : Joint → Tree Node
left_tree j = folded (pushed j.holds (plain_ground j.left.now))

-- joints before a tree on the right
abbrev pub before : List Joint → Tree Node → Tree Node
before [] t = t
before (j ∷ js) t = junction_of j.junction (left_tree j) (before js t)
