use Rattle.pc_ground.specs.declared.version.Version.TheVariants.{One}
use Rattle.tree_check.proofs.judging.begin.Goals as goal

pub returns-in-One : goal.returns-in-One
returns-in-One c = rw c.in-One.is c.in_ok-branches.ensures

pub returns-in-Two : goal.returns-in-Two
returns-in-Two c = λ t flat. rw c.in-Two.is (c.begin_two.ensures One t _ (c.in_ok-branches.ensures t flat))
