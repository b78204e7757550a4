use Rattle.litmus_reader.proofs.reading.page_at.Goals as goal

pub returns : goal.returns
returns c = λ p at.
    let t = c.numeral_at.ensures.value p.tag at.0 in
    let x = c.numeral_at-2.ensures.value p.index at.1 in
    λ i. record { tag = t i; index = x i }
