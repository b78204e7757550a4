use Rattle.std.proofs.Common.{refl}
use Rattle.uspec_lexer.specs.Expected.{a_number}
use Rattle.litmus_reader.specs.{Expected.{number_at}, Syntax.{spelled_entry}, declared.item.ValueText.TheVariants.{Entry}}
use Rattle.litmus_reader.proofs.Places.{stands, number-stands}
use Rattle.litmus_reader.proofs.reading.entry_at.Goals as goal

pub numeral_at-requires-2 : goal.numeral_at-requires-2
numeral_at-requires-2 c =
    let (t, a, d, b) = c.requires.begins in (a.value, number-stands a (stands (spelled_entry t a d) b 3 (number_at a) refl))

pub numeral_at-requires-3 : goal.numeral_at-requires-3
numeral_at-requires-3 c =
    let (t, a, d, b) = c.requires.begins in (d.value, number-stands d (stands (spelled_entry t a d) b 4 (number_at d) refl))

pub returns : goal.returns
returns c = λ t a d b.
    let es = spelled_entry t a d in
    let tag = c.numeral_at.ensures.value t (stands es b 2 (a_number t) refl) in
    let accessed = c.numeral_at-2.ensures.numeral a (stands es b 3 (number_at a) refl) in
    let dirty = c.numeral_at-3.ensures.numeral d (stands es b 4 (number_at d) refl) in
    λ i. Entry (tag i) (accessed i) (dirty i)
