-- What stays of the steps that are left, after those that were kept, is what stays of all.
use Rattle.std.proofs.Common.{◌≡◌, ◌++◌, length, map, drop}
use Rattle.std.specs.Vec.Iter.{into_iter_items, into_iter_len}
use Rattle.refutation.specs.{Kept.{kept}, Steps.{plain_step}}
use Rattle.refutation.proofs.list.Refutation.keep.Given as goal

abbrev pub invariant-loop-flag : goal.invariant-loop-flag
invariant-loop-flag l = record {
  counted : into_iter_len l.rest ≡ length (into_iter_items l.rest);
  steps : l.short ++ kept (drop l.flag-index l.stays) (map plain_step (into_iter_items l.rest)) ≡ kept l.stays l.fn.self;
}
