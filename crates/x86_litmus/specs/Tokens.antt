-- The lexical grammar of listings, and what a listing spells from a place on. It has no texts, and no comments up to
-- the line's end.
use Rattle.std.specs.{Prelude.{ℕ, ◌==◌, Bool, ◌&&◌, ◌||◌, List, codes, if◌then◌else◌}, List.{list_any}, Char.{is_ascii_alphabetic, is_ascii_digit}}
use Rattle.uspec_lexer.specs.{Token.{Token}, Table.{Table}, Spells.{SpellsFrom, IsFaultFrom}, declared.grammar.Opening.{Opening}}
use Rattle.uspec_lexer.specs.declared.grammar.Opening.TheVariants.{ShortSymbol, LongSymbol, Nothing}

-- a letter, a digit or `_`
abbrev pub is_name_byte : ℕ → Bool
is_name_byte c = is_ascii_alphabetic c || is_ascii_digit c || (c == 0x5F)

abbrev pub is_short_symbol : ℕ → Bool
is_short_symbol c = list_any (λ s. s == c) (codes "{};|[],$:=()~")

-- the one symbol of two bytes is /\
abbrev pub opening : ℕ → ℕ → Opening
opening c d =
    if (c == 0x2F) && (d == 0x5C) then LongSymbol
    else if is_short_symbol c then ShortSymbol
    else Nothing

abbrev pub listings : Table
listings = record { opening = opening; is_name_byte = is_name_byte }

-- a listing spells these tokens from a place to its end
abbrev pub Spells : List ℕ → ℕ → List Token → Type 0
Spells bytes from ts = SpellsFrom listings bytes from ts

-- it has its lexical fault from there at k
abbrev pub IsLexicalFault : List ℕ → ℕ → ℕ → Type 0
IsLexicalFault bytes from k = IsFaultFrom listings bytes from k
