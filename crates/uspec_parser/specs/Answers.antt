-- What the answers of the two calls mean.
use Rattle.std.specs.Prelude.{List, Bool, map, ⊤}
use Rattle.ll_grammar.specs.{FirstFault.{IsFirstTokenFault}, declared.fault.Fault.{Fault, TheVariants.{Syntax as syntax_fault, Depth as depth_fault}}}
use Rattle.uspec_lexer.specs.Token.{Token}
use Rattle.uspec_parser.specs.{Terminals.{terminal_of}, declared.{terminal.Terminal.{Terminal}, fault.ParseFault.{ParseFault}}}
use Rattle.uspec_parser.specs.declared.fault.ParseFault.TheVariants.{Syntax, Depth, Memory}

abbrev pub terminals : List Token → List Terminal
terminals tokens = map terminal_of tokens

-- a fault of syntax or depth is the first fault of the tokens; want of memory is tied to nothing
abbrev pub IsParseRefusal : (List Terminal → List Bool → Type 0) → List Terminal → ParseFault → Type 0
IsParseRefusal Marked ts (Syntax k) = IsFirstTokenFault Marked ts (syntax_fault k)
IsParseRefusal Marked ts (Depth k) = IsFirstTokenFault Marked ts (depth_fault k)
IsParseRefusal Marked ts Memory = ⊤

abbrev pub refusal_of : Fault → ParseFault
refusal_of (syntax_fault k) = Syntax k
refusal_of (depth_fault k) = Depth k
