use Rattle.litmus_reader.proofs.Places.{number-stands}
use Rattle.litmus_reader.proofs.reading.end_at.Goals as goal

pub numeral_at-requires : goal.numeral_at-requires
numeral_at-requires c = let (e, at) = c.requires.end in (e.g.value, number-stands e.g at.0)

pub returns : goal.returns
returns c = λ e at.
    let g = c.numeral_at.ensures.numeral e.g at.0 in
    let n = c.numeral_at-2.ensures.value e.n at.1 in
    λ i. record { g = g i; n = n i }
