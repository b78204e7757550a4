use Rattle.std.proofs.Common.{◌+◌, ◌*◌, ◌≤◌, List, length}
use Rattle.pc_syntax.specs.Written.{written}
use Rattle.uspec_parser.specs.{Terminals.{Lexeme}, Operands.{Operands}, Grouping.{operands_before}, Descent.{Row, Tail}}
use Rattle.uspec_parser.proofs.cursor.Cursor.+formula.Given as goal

abbrev pub decreases-formula : goal.decreases-formula
decreases-formula l = 3 * length l.self.now + 2

abbrev pub decreases-operand : goal.decreases-operand
decreases-operand l = 3 * length l.self.now + 1

abbrev pub decreases-quantified : goal.decreases-quantified
decreases-quantified l = 3 * length l.self.now

-- the list to come from the last operand on, after those that were read, is all
abbrev pub invariant-formula-loop-connective : goal.invariant-formula-loop-connective
invariant-formula-loop-connective l =
    (length l.self ≤ length l.fn.self)
    × ((more : Operands) (rest : List Lexeme) → Tail l.self (written l.last) more rest → Row l.fn.self (operands_before l.operands.items more) rest)

abbrev pub decreases-formula-loop-connective : goal.decreases-formula-loop-connective
decreases-formula-loop-connective l = length l.self
