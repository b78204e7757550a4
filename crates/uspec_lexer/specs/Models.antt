-- The lexical grammar of models and tests.
use Rattle.std.specs.{Prelude.{ℕ, ◌==◌, Bool, ◌&&◌, ◌||◌, codes, if◌then◌else◌}, List.{list_any}}
use Rattle.uspec_lexer.specs.{Bytes.{is_name_byte}, Table.{Table}, declared.grammar.Opening.{Opening}}
use Rattle.uspec_lexer.specs.declared.grammar.Opening.TheVariants.{LineComment, Text, ShortSymbol, LongSymbol, Nothing}

-- % or //
abbrev pub opens_line : ℕ → ℕ → Bool
opens_line c d = (c == 0x25) || ((c == 0x2F) && (d == 0x2F))

abbrev pub is_short_symbol : ℕ → Bool
is_short_symbol c = list_any (λ s. s == c) (codes "()[],;:.~")

-- /\ \/ => ->
abbrev pub is_long_symbol : ℕ → ℕ → Bool
is_long_symbol c d =
    ((c == 0x2F) && (d == 0x5C)) || ((c == 0x5C) && (d == 0x2F)) || ((c == 0x3D) && (d == 0x3E)) || ((c == 0x2D) && (d == 0x3E))

abbrev pub opening : ℕ → ℕ → Opening
opening c d =
    if c == 0x22 then Text
    else if opens_line c d then LineComment
    else if is_long_symbol c d then LongSymbol
    else if is_short_symbol c then ShortSymbol
    else Nothing

abbrev pub models : Table
models = record { opening = opening; is_name_byte = is_name_byte }
