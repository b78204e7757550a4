-- The header of a listing, by lines: the title, then lines of no meaning, up to the line that opens the body.
use Rattle.std.specs.Prelude.{ℕ, ◌+◌, ◌==◌, Bool, ◌&&◌, ◌||◌, List, [], ◌∷◌, length, drop, slice_index, nat_lt, nat_eq, codes, if◌then◌else◌}
use Rattle.std.specs.List.{list_all, list_any, prefix_len, position_or_len, slice_split, starts_with}

-- space, tab or CR: no line has an LF
abbrev pub is_blank : ℕ → Bool
is_blank c = (c == 0x20) || (c == 0x09) || (c == 0x0D)

abbrev pub is_space : ℕ → Bool
is_space c = c == 0x20

abbrev pub is_line_end : ℕ → Bool
is_line_end c = c == 0x0A

-- the bytes up to each LF, and those after the last one
abbrev pub lines : List ℕ → List (List ℕ)
lines bytes = slice_split is_line_end bytes

-- how many blanks a line begins with
abbrev pub indent : List ℕ → ℕ
indent line = prefix_len is_blank line

-- the first nonblank byte is {
abbrev pub opens_body : List ℕ → Bool
opens_body line = slice_index line (indent line) == 0x7B

-- the line is blank, begins with a double quote or holds =
abbrev pub has_no_meaning : List ℕ → Bool
has_no_meaning line = list_all is_blank line || (slice_index line 0 == 0x22) || list_any (λ c. c == 0x3D) line

abbrev pub behind_spaces : List ℕ → List ℕ
behind_spaces bytes = drop (prefix_len is_space bytes) bytes

-- a name without blanks, and then blanks
abbrev pub is_name_and_blanks : List ℕ → Bool
is_name_and_blanks bytes =
    let width : ℕ = position_or_len is_blank bytes in nat_lt 0 width && list_all is_blank (drop width bytes)

-- X86, spaces, a name without blanks, blanks
abbrev pub is_title : List ℕ → Bool
is_title line = starts_with nat_eq line (codes "X86 ") && is_name_and_blanks (behind_spaces (drop 3 line))

pub data Header : Type 0 where
  -- the line at this place opens the body
  body : ℕ → Header
  -- no header goes on at this place
  fault : ℕ → Header

-- what the lines from this place on make of a header, of a text that ends at `end`
abbrev pub header_behind : ℕ → ℕ → List (List ℕ) → Header
header_behind end at [] = fault end
header_behind end at (line ∷ others) =
    if opens_body line then body at
    else if has_no_meaning line then header_behind end (at + length line + 1) others
    else fault (at + indent line)

abbrev pub header_of_lines : ℕ → List (List ℕ) → Header
header_of_lines end [] = fault 0
header_of_lines end (title ∷ others) =
    if is_title title then header_behind end (length title + 1) others else fault 0

-- the header of a text
abbrev pub header_of : List ℕ → Header
header_of bytes = header_of_lines (length bytes) (lines bytes)
