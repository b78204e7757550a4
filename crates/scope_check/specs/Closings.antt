-- What closing makes of a formula that stands alone.
use Rattle.std.specs.Prelude.{List, []}
use Rattle.pc_syntax.specs.{declared.{closed.Closed.{Closed}, model.StageItem.{StageItem}}, Written.{Written}, Closed.{plain_closed}, Closing.{IsClosingOf}}

-- the closed formula is what closing makes of the written one, around which nothing is bound
abbrev pub Closes : List StageItem → Written → Closed → Type 0
Closes stages formula closed = IsClosingOf stages [] formula (plain_closed closed.body)
