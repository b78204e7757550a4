-- The lines of a header as the reader goes over them.
use Rattle.std.specs.Prelude.{◌≡◌, ℕ, ◌≤◌, Bool, not, List, [], length, drop, nat_lt, if◌then◌else◌}
use Rattle.pc_common.specs.declared.place.Place.{Place}
use Rattle.x86_litmus.specs.{Header.{body, fault, is_blank, is_space, is_line_end, lines, header_of}, declared.header.Leading.{Leading}}
use Rattle.x86_litmus.specs.declared.header.Leading.TheVariants.{Blanks, Spaces, Nonblanks, LineBytes}

-- whether a run of this kind has the byte
abbrev pub is_among : Leading → ℕ → Bool
is_among Blanks c = is_blank c
is_among Spaces c = is_space c
is_among Nonblanks c = not (is_blank c)
is_among LineBytes c = not (is_line_end c)

-- the lines that begin at this place or after it: none where the text has ended before
abbrev pub lines_from : List ℕ → ℕ → List (List ℕ)
lines_from bytes at = if nat_lt (length bytes) at then [] else lines (drop at bytes)

-- where the body begins, within the text
abbrev pub IsBodyAt : List ℕ → ℕ → Type 0
IsBodyAt bytes at = (header_of bytes ≡ body at) × (at ≤ length bytes)

abbrev pub IsHeaderFault : List ℕ → Place → Type 0
IsHeaderFault bytes place = header_of bytes ≡ fault place.offset
