-- What is left before the whole so far is what all members are.
use Rattle.std.proofs.Common.{◌≡◌, map, vec_len}
use Rattle.pc_ground.specs.PlainGround.{plain_ground}
use Rattle.grounder.specs.Members.{with_members, whole_of}
use Rattle.grounder.proofs.operator.Operator.join_all.Given as goal

abbrev pub invariant-loop-member : goal.invariant-loop-member
invariant-loop-member l =
    with_members l.self (map plain_ground l.members.items) (plain_ground l.whole) ≡ whole_of l.self (map plain_ground l.fn.members.items)

abbrev pub decreases-loop-member : goal.decreases-loop-member
decreases-loop-member l = vec_len l.members
