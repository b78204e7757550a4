use Rattle.std.proofs.Common.{List, ◌++◌, length, map}
use Rattle.pc_syntax.specs.{declared.model.StageItem.{StageItem}, Written.{WrittenItem, written_item}}
use Rattle.uspec_parser.specs.Descent.{Items}
use Rattle.uspec_parser.proofs.cursor.Cursor.model.Given as goal

-- the items to come, after those that were read, are all
abbrev pub invariant-loop-alloc : goal.invariant-loop-alloc
invariant-loop-alloc l =
    (ss : List StageItem) (is : List WrittenItem) → Items l.self ss is
    → Items l.initial.self (l.file.stages ++ ss) (map written_item l.file.items ++ is)

abbrev pub decreases-loop-alloc : goal.decreases-loop-alloc
decreases-loop-alloc l = length l.self
