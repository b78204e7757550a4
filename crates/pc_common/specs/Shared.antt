-- The items of a shared list.
use Rattle.std.specs.{Prelude.{List, [], Option, Some, None}, declared.{alloc.Global.{Global}, rc.RcSlice.{RcSlice}}, Rc.{rc_slice_items}}

-- none of an empty list is kept
abbrev pub owned_items : {T : Type 0} → Option (RcSlice T Global) → List T
owned_items None = []
owned_items (Some items) = rc_slice_items items
