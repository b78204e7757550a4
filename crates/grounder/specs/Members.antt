-- And and Or over a list of members, unfolded and with constants folded.
use Rattle.std.specs.Prelude.{List, [], ◌∷◌}
use Rattle.pc_ground.specs.{PlainGround.{PlainGround, ground_true, ground_false, ground_conjoined, ground_disjoined}, Unfolded.{all_of, some_of}}
use Rattle.grounder.specs.declared.operator.Operator.{Operator, TheVariants.{And, Or}}

-- what the members say together, nothing folded
abbrev pub unfolded_all : Operator → List PlainGround → PlainGround
unfolded_all And gs = all_of gs
unfolded_all Or gs = some_of gs

-- the constant that a member may be without any effect
abbrev pub unit_of : Operator → PlainGround
unit_of And = ground_true
unit_of Or = ground_false

-- the constant that makes the whole the same constant
abbrev pub decider_of : Operator → PlainGround
decider_of And = ground_false
decider_of Or = ground_true

-- one member and the rest, where no constant stands below a connective of either
abbrev pub with_member : Operator → PlainGround → PlainGround → PlainGround
with_member And g h = ground_conjoined g h
with_member Or g h = ground_disjoined g h

-- all members, and then the rest
abbrev pub with_members : Operator → List PlainGround → PlainGround → PlainGround
with_members con [] h = h
with_members con (g ∷ gs) h = with_member con g (with_members con gs h)

-- all members and nothing else
abbrev pub whole_of : Operator → List PlainGround → PlainGround
whole_of con gs = with_members con gs (unit_of con)
