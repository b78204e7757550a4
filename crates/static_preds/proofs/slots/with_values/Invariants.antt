-- The first k arguments have their slots.
use Rattle.std.proofs.Common.{◌≡◌, ◌+◌, ◌++◌, length, map, take}
use Rattle.pc_common.specs.Case.{Case}
use Rattle.pc_syntax.specs.{Closed.{closed_value}, IsClosed.{with_sorts}}
use Rattle.static_preds.specs.{Values.{scope_of, meanings}, Slots.{AreInRange}}
use Rattle.static_preds.proofs.slots.with_values.Given as goal

abbrev pub invariant-loop-k : goal.invariant-loop-k
invariant-loop-k l =
    record {
      count : length l.inside.items ≡ length l.env.items + l.k;
      meanings : meanings l.inside.items ≡ meanings l.env.items ++ map (closed_value (meanings l.env.items)) (take l.k l.args);
      scope : scope_of l.inside.items ≡ with_sorts (scope_of l.env.items) (take l.k l.args);
      range : (c : Case) → AreInRange c l.env.items → AreInRange c l.inside.items;
    }
