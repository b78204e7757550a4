-- Each function's measure is of the formulas that it walks; and what the loop over a range keeps: the members so far and those that
-- are not walked yet make the whole.
use Rattle.std.proofs.Common.{◌≡◌, ◌+◌, ◌*◌, max, length, take}
use Rattle.pc_syntax.specs.{declared.closed_formula.ClosedFormula.{size-ClosedFormula}, Closed.{plain_closed}}
use Rattle.static_preds.specs.Values.{meanings}
use Rattle.lifter.specs.{Trees.{joined_trees, bodies}, Kinds.{kind_of, joined_kind}}
use Rattle.lifter.proofs.formula_kind.+walk.Given as goal

abbrev pub decreases-kind_of_formula : goal.decreases-kind_of_formula
decreases-kind_of_formula l = 2 * size-ClosedFormula l.formula.now

abbrev pub decreases-kind_of_two : goal.decreases-kind_of_two
decreases-kind_of_two l = 2 * max (size-ClosedFormula l.left.now) (size-ClosedFormula l.right.now) + 1

abbrev pub decreases-kind_of_range : goal.decreases-kind_of_range
decreases-kind_of_range l = 2 * size-ClosedFormula l.body.now + 1

abbrev pub decreases-kind_of_bound : goal.decreases-kind_of_bound
decreases-kind_of_bound l = 2 * size-ClosedFormula l.body.now + 1

abbrev pub invariant-kind_of_range-loop-k : goal.invariant-kind_of_range-loop-k
invariant-kind_of_range-loop-k l = record {
  begins : take (length l.env.items) l.inside.items ≡ l.env.items;
  whole : joined_kind l.all l.kind (kind_of (joined_trees l.all (bodies l.case l.plus l.sort (plain_closed l.body) (meanings l.env.items) l.k)))
      ≡ kind_of (joined_trees l.all (bodies l.case l.plus l.sort (plain_closed l.body) (meanings l.env.items) l.from));
}
