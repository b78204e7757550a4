use Rattle.std.proofs.Common.{List, ◌++◌, length}
use Rattle.uspec_parser.specs.{Terminals.{Lexeme}, Descent.{Elements}}
use Rattle.uspec_parser.proofs.cursor.Cursor.elements.Given as goal

-- the elements to come, after those that were read, are all
abbrev pub invariant-loop-alloc : goal.invariant-loop-alloc
invariant-loop-alloc g l =
    (more : List _) (rest : List Lexeme) → Elements g.E.Element.one g.E.Element.behind_one l.self more rest
    → Elements g.E.Element.one g.E.Element.behind_one l.initial.self (l.elements ++ more) rest

abbrev pub decreases-loop-alloc : goal.decreases-loop-alloc
decreases-loop-alloc g l = length l.self
