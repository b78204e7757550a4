-- What is expected at a place of a test.
use Rattle.std.specs.Prelude.{ℕ, List}
use Rattle.pc_common.specs.declared.place.Place.{Place}
use Rattle.uspec_lexer.specs.Expected.{Expected, placed_word, placed_number}
use Rattle.litmus_reader.specs.declared.item.Numeral.{Numeral}

-- the name with this spelling, and it stands at this place
abbrev pub word_at : List ℕ → Place → Expected
word_at w at = placed_word w at.offset

-- a number of this value, and it stands at this place
abbrev pub number_at : Numeral → Expected
number_at n = placed_number n.value n.at.offset
