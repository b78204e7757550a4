use Rattle.std.proofs.{Common.{◌*◌, inl, inr, arith}, lemmas.Bool.{cases_lt}}
use Rattle.order_graph.proofs.clashes.joins_denied.Goals as goal

pub loop-word-preserved : goal.loop-word-preserved
loop-word-preserved c = λ x y low high inside columns denier over.
    elim (cases_lt x (64 * c.loop-word.word)) [
      | inl before ↦ c.loop-word.invariant x y low before inside columns denier over
      | inr here ↦ c.if-word_joins_denied.ensures x y here (omega arith) inside columns denier over
    ]

pub returns : goal.returns
returns c = λ x y low high inside columns denier over.
    let end = c.loop-word-test.false in
    c.loop-word.invariant x y low (omega arith) inside columns denier over
