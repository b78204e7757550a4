use Rattle.std.proofs.Common.{reverse}
use Rattle.ll_grammar.proofs.Progress.{IsReading}
use Rattle.ll_grammar.proofs.fault.first_fault.Given as goal

abbrev pub invariant-loop-at : goal.invariant-loop-at
invariant-loop-at g l =
    IsReading g.N.Grammar.rules g.N.Grammar.follow l.fn.start l.classes l.at (reverse l.stack.items)
