use Rattle.std.proofs.{Common.{sym, ◌∙◌, arith}, lemmas.List.Sums.{prefix_len_is}}
use Rattle.x86_litmus.specs.Lines.{is_among}
use Rattle.x86_litmus.proofs.header.Leading.count.Goals as goal

pub returns-else-has-clause-count : goal.returns-else-has-clause-count
returns-else-has-clause-count c =
    sym (prefix_len_is (is_among c.args.self) c.args.bytes.now c.loop-end.end 0 c.loop-end.invariant.within c.loop-end.invariant.inside
    (λ below. sym c.has.ensures ∙ c.if-has.false))

pub returns-after-loop-end-clause-count : goal.returns-after-loop-end-clause-count
returns-after-loop-end-clause-count c =
    sym (prefix_len_is (is_among c.args.self) c.args.bytes.now c.loop-end.end 0 c.loop-end.invariant.within c.loop-end.invariant.inside
    (λ below. absurd (omega arith)))
