use Rattle.std.proofs.Common.{◌<◌, Some, length, arith, sym, ◌∙◌, ap}
use Rattle.pc_syntax.specs.{Truth.{range_of}, Closed.{meaning_of}}
use Rattle.static_preds.proofs.Ranges.{value}
use Rattle.lifted_facts.proofs.inside.value_at.Goals as goal

pub returns-clause-value : goal.returns-clause-value
returns-clause-value c =
    let within : c.args.place < length (range_of c.args.case.now c.args.sort) =
    omega (arith, c.range_len.ensures.count, c.from.ensures, c.if-place-from.false) in
    ap (λ b. Some (meaning_of b)) c.value_in_range.ensures ∙ sym (value c.args.case.now c.args.sort c.args.place within)
