-- The classes of bytes, the names of models and tests, and the value of digits.
use Rattle.std.specs.{Prelude.{ℕ, ◌+◌, ◌-◌, ◌*◌, ◌==◌, Bool, false, not, ◌&&◌, ◌||◌, nat_le, List, [], ◌∷◌, fold}, List.{list_all}}
use Rattle.std.specs.Char.{is_ascii_alphabetic, is_ascii_digit}

-- space, tab, CR, LF
abbrev pub is_blank : ℕ → Bool
is_blank c = (c == 0x20) || (c == 0x09) || (c == 0x0D) || (c == 0x0A)

-- printable, and no double quote
abbrev pub is_text_byte : ℕ → Bool
is_text_byte c = nat_le 0x20 c && nat_le c 0x7E && not (c == 0x22)

-- any byte but LF
abbrev pub is_line_byte : ℕ → Bool
is_line_byte c = not (c == 0x0A)

-- in a name of models and tests: a letter, a digit, `_` or `'`
abbrev pub is_name_byte : ℕ → Bool
is_name_byte c = is_ascii_alphabetic c || is_ascii_digit c || (c == 0x5F) || (c == 0x27)

-- such a name: a letter, and then letters, digits, `_` and `'`
unfoldable pub is_name : List ℕ → Bool
is_name [] = false
is_name (c ∷ cs) = is_ascii_alphabetic c && list_all is_name_byte cs

-- the value of decimal digits
abbrev pub number_value : List ℕ → ℕ
number_value digits = fold (λ value digit. value * 10 + (digit - 0x30)) 0 digits
