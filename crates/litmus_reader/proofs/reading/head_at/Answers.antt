use Rattle.std.proofs.Common.{refl, codes, [], ◌∷◌}
use Rattle.uspec_lexer.specs.{View.{plain}, Expected.{a_number}}
use Rattle.litmus_reader.{specs.{Expected.{word_at, number_at}, Syntax.{spelled_head}}, proofs.Places.{stands, stands-first, number-stands, place-stands}}
use Rattle.litmus_reader.proofs.reading.head_at.Goals as goal

pub numeral_at-requires : goal.numeral_at-requires
numeral_at-requires c =
    let (h, b) = c.requires.begins in (h.g.value, number-stands h.g (stands (spelled_head h) b 1 (number_at h.g) refl))

pub numeral_at-requires-2 : goal.numeral_at-requires-2
numeral_at-requires-2 c =
    let (h, b) = c.requires.begins in (h.core.value, number-stands h.core (stands (spelled_head h) b 2 (number_at h.core) refl))

pub numeral_at-requires-3 : goal.numeral_at-requires-3
numeral_at-requires-3 c =
    let (h, b) = c.requires.begins in (h.thread.value, number-stands h.thread (stands (spelled_head h) b 3 (number_at h.thread) refl))

pub numeral_at-requires-4 : goal.numeral_at-requires-4
numeral_at-requires-4 c = let (h, b) = c.requires.begins in (h.n, stands (spelled_head h) b 4 (a_number h.n) refl)

pub returns : goal.returns
returns c = λ h b.
    let at = place-stands c.get.result.at h.at (plain c.get.result) c.get.ensures refl
    (stands-first (word_at (codes "Microop") h.at) (number_at h.g ∷ number_at h.core ∷ number_at h.thread ∷ a_number h.n ∷ []) b) in
    let g = c.numeral_at.ensures.numeral h.g (stands (spelled_head h) b 1 (number_at h.g) refl) in
    let core = c.numeral_at-2.ensures.numeral h.core (stands (spelled_head h) b 2 (number_at h.core) refl) in
    let thread = c.numeral_at-3.ensures.numeral h.thread (stands (spelled_head h) b 3 (number_at h.thread) refl) in
    let n = c.numeral_at-4.ensures.value h.n (stands (spelled_head h) b 4 (a_number h.n) refl) in
    λ i. record { at = at i; g = g i; core = core i; thread = thread i; n = n i }
