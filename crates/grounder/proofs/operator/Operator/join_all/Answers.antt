use Rattle.std.proofs.Common.{◌∙◌}
use Rattle.pc_ground.specs.PlainGround.{plain_ground}
use Rattle.grounder.proofs.WithMembers.{taken_last}
use Rattle.grounder.proofs.operator.Operator.join_all.Goals as goal

pub loop-member-preserved : goal.loop-member-preserved
loop-member-preserved c =
    taken_last c.args.self c.loop-member.members.items c.pop.new.self.items c.in-Some.member (plain_ground c.loop-member.whole)
    (plain_ground c.in_ok-whole.whole)
    c.in-Some.ensures.items c.in_ok-whole.ensures
    ∙ c.loop-member.invariant
