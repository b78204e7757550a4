use Rattle.std.proofs.Common.{◌≤◌, length}
use Rattle.solver.specs.{Spelled.{spelled}, Places.{side_positions, IsSideIn}, Branches.{branches_with, HasOpenBranch}, Weights.{weight}, Descents.{IsLonger}}
use Rattle.solver.proofs.search.descend.descend.Given as goal

abbrev pub invariant-loop-branch : goal.invariant-loop-branch
invariant-loop-branch g l = record {
  inside : IsSideIn (spelled l.tree.rows) l.side;
  state : HasOpenBranch l.fn.version l.tree l.branch (side_positions (spelled l.tree.rows) l.side);
  lighter : weight (spelled l.tree.rows) (branches_with l.tree l.branch (side_positions (spelled l.tree.rows) l.side))
      ≤ weight (spelled l.tree.rows) (branches_with l.tree l.fn.branch (side_positions (spelled l.tree.rows) l.fn.side));
  longer : IsLonger l.fn.branch.refutation l.branch.refutation;
}

abbrev pub decreases-loop-branch : goal.decreases-loop-branch
decreases-loop-branch g l = length l.branch.later.items
