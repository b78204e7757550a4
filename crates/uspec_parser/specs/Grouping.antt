-- What the code's grouping of operands stands for.
use Rattle.std.specs.Prelude.{List, [], ◌∷◌, Option, Some, None}
use Rattle.pc_syntax.specs.{declared.formula.Formula.{Formula}, Written.{Written, written}}
use Rattle.uspec_parser.specs.{Operands.{Operands, chain, Grouped, before}, declared.operands.{Link.{Link}, Grouping.{Grouping}}}

-- operands with the connectives after them, and a list
abbrev pub operands_before : List Link → Operands → Operands
operands_before [] l = l
operands_before (j ∷ js) l = chain (written j.operand) j.connective (operands_before js l)

abbrev pub written_option : Option Formula → Option Written
written_option None = None
written_option (Some f) = Some (written f)

abbrev pub written_grouping : Grouping → Grouped
written_grouping g =
    record { now = written g.now; disjoined = written_option g.disjoined; implied = written_option g.implied }

-- operands with the connectives after them, before a list that is grouped already
abbrev pub grouped_before : List Link → Grouped → Grouped
grouped_before [] g = g
grouped_before (j ∷ js) g = before (written j.operand) j.connective (grouped_before js g)
