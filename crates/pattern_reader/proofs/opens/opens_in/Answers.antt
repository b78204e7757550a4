use Rattle.std.proofs.Common.{◌∙◌, ap, ◌++◌, arith}
use Rattle.pattern_reader.{specs.Opens.{open_at}, proofs.Scanning.{opens_more}}
use Rattle.pattern_reader.proofs.opens.opens_in.Goals as goal

pub loop-k-preserved : goal.loop-k-preserved
loop-k-preserved c =
    let before = c.loop-k.invariant in
    let made = c.in_ok-note_open.ensures in
    let few = made.few in
    let most = before.2 in (
      c.see_more-seen.ensures,
      made.opens ∙ ap (λ os. os ++ open_at c.args.tokens.now c.loop-k.k) before.1 ∙ opens_more c.args.tokens.now c.loop-k.k,
      omega (arith, few, most),
    )
