use Rattle.std.proofs.Common.{List, ◌++◌, length}
use Rattle.pc_syntax.specs.declared.term.Word.{Word}
use Rattle.uspec_parser.specs.{Terminals.{Lexeme}, Descent.{Parameters}}
use Rattle.uspec_parser.proofs.cursor.Cursor.parameters.Given as goal

-- the parameters to come, after those that were read, are all
abbrev pub invariant-loop-alloc : goal.invariant-loop-alloc
invariant-loop-alloc l =
    (more : List Word) (rest : List Lexeme) → Parameters l.self more rest → Parameters l.initial.self (l.words ++ more) rest

abbrev pub decreases-loop-alloc : goal.decreases-loop-alloc
decreases-loop-alloc l = length l.self
