use Rattle.std.proofs.Common.{get_or, arith}
use Rattle.litmus_reader.{specs.Content.{SplitFrom}, proofs.RowFacts.{never-more, never-all, never-of, nobody}}
use Rattle.litmus_reader.proofs.rows.split_instruction.Goals as goal

pub loop-earlier-preserved : goal.loop-earlier-preserved
loop-earlier-preserved c =
    never-more c.args.before.now c.loop-earlier.earlier-index (SplitFrom c.args.head) nobody c.loop-earlier-test.true c.loop-earlier.invariant
    (never-of (SplitFrom c.args.head (get_or c.args.before.now c.loop-earlier.earlier-index nobody)) c.split_fault.result c.in_default.is c.split_fault.ensures)

pub returns : goal.returns
returns c = never-all c.args.before.now (SplitFrom c.args.head) (λ k e below at. c.loop-earlier.invariant k e (omega arith) at)
