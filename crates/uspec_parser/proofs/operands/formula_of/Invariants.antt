use Rattle.std.proofs.Common.{◌≡◌, length}
use Rattle.uspec_parser.specs.Grouping.{grouped_before, written_grouping}
use Rattle.uspec_parser.proofs.operands.formula_of.Given as goal

-- what is left, before what is grouped, makes the same
abbrev pub invariant-loop-link : goal.invariant-loop-link
invariant-loop-link l =
    grouped_before l.before.items (written_grouping l.grouping) ≡ grouped_before l.initial.before.items (written_grouping l.initial.grouping)

abbrev pub decreases-loop-link : goal.decreases-loop-link
decreases-loop-link l = length l.before.items
