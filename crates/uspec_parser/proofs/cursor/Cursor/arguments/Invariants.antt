use Rattle.std.proofs.Common.{List, ◌++◌, length}
use Rattle.pc_syntax.specs.declared.term.Arg.{Arg}
use Rattle.uspec_parser.specs.{Terminals.{Lexeme}, Descent.{Arguments}}
use Rattle.uspec_parser.proofs.cursor.Cursor.arguments.Given as goal

-- the arguments to come, after those that were read, are all
abbrev pub invariant-loop-alloc : goal.invariant-loop-alloc
invariant-loop-alloc l =
    (more : List Arg) (rest : List Lexeme) → Arguments l.self more rest → Arguments l.initial.self (l.args ++ more) rest

abbrev pub decreases-loop-alloc : goal.decreases-loop-alloc
decreases-loop-alloc l = length l.self
