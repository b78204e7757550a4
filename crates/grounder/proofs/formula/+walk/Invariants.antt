-- Each function's measure is of the formula that it walks; and what the loop over a range keeps: the
-- members that are kept and those that are not walked yet say what all say.
use Rattle.std.proofs.Common.{◌≡◌, ◌+◌, ◌*◌, ◌++◌, length, map, take, drop}
use Rattle.pc_syntax.specs.{declared.closed_formula.ClosedFormula.{size-ClosedFormula}, Truth.{range_of}, Closed.{plain_closed}}
use Rattle.pc_ground.specs.PlainGround.{plain_ground}
use Rattle.grounder.{specs.{Members.{whole_of}, GroundingOf.{grounding_over}}, proofs.WithMembers.{grounding_at}}
use Rattle.grounder.proofs.formula.+walk.Given as goal

abbrev pub decreases-ground_formula : goal.decreases-ground_formula
decreases-ground_formula l = 2 * size-ClosedFormula l.formula.now

abbrev pub decreases-ground_rest : goal.decreases-ground_rest
decreases-ground_rest l = 2 * size-ClosedFormula l.right.now + 1

abbrev pub decreases-ground_binding : goal.decreases-ground_binding
decreases-ground_binding l = 2 * size-ClosedFormula l.body.now + 1

abbrev pub decreases-ground_range : goal.decreases-ground_range
decreases-ground_range l = 2 * size-ClosedFormula l.body.now + 1

abbrev pub invariant-ground_range-loop-k : goal.invariant-ground_range-loop-k
invariant-ground_range-loop-k l =
    let grounding_each = grounding_at l.case l.env.items (plain_closed l.body) in
    record {
      begins : take (length l.env.items) l.inside.items ≡ l.env.items;
      all :
          grounding_over l.operator l.case l.env.items l.sort (plain_closed l.body)
          ≡ whole_of l.operator (map plain_ground l.kept.items ++ map grounding_each (drop l.k (range_of l.case l.sort)));
    }
