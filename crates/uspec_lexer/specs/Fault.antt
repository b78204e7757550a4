-- What a refusal means: want of memory is tied to nothing.
use Rattle.std.specs.Prelude.{ℕ, List, ⊤}
use Rattle.uspec_lexer.specs.{Table.{Table}, Models.{models}, Spells.{IsFaultFrom}, declared.fault.LexFault.{LexFault, TheVariants.{Lexical, Memory}}}

abbrev pub IsRefusalFrom : Table → List ℕ → ℕ → LexFault → Type 0
IsRefusalFrom t bytes from (Lexical place) = IsFaultFrom t bytes from place.offset
IsRefusalFrom t bytes from Memory = ⊤

-- of a whole model or test
abbrev pub IsLexicalRefusal : List ℕ → LexFault → Type 0
IsLexicalRefusal bytes f = IsRefusalFrom models bytes 0 f
