use Rattle.lifted_facts.proofs.parts.part_of_said.Goals as goal

pub returns-in-Left-clause-is : goal.returns-in-Left-clause-is
returns-in-Left-clause-is c = rw c.in-Left.is (c.left.ensures.is c.args.case.now)

pub returns-in-Right-clause-is : goal.returns-in-Right-clause-is
returns-in-Right-clause-is c = rw c.in-Right.is (c.right.ensures.is c.args.case.now)

pub returns-in-Not-clause-is : goal.returns-in-Not-clause-is
returns-in-Not-clause-is c = rw c.in-Not.is (c.part_of_not.ensures.is c.args.case.now)

pub returns-in-Bind-clause-is : goal.returns-in-Bind-clause-is
returns-in-Bind-clause-is c = rw c.in-Bind.is (c.part_of_bind.ensures.is c.args.case.now)
