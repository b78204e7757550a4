use Rattle.std.proofs.Common.{◌≡◌, ◌++◌, reverse, take}
use Rattle.ll_grammar.proofs.grammar.push_body.Given as goal

abbrev pub invariant-loop-at : goal.invariant-loop-at
invariant-loop-at g l =
    l.stack.items ++ reverse (take l.at l.body) ≡ l.initial.stack.items ++ reverse l.body
