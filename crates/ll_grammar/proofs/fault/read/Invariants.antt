use Rattle.std.proofs.Common.{reverse, length}
use Rattle.ll_grammar.specs.{Predictable.{IsReady}, Predictions.{IsRead}, declared.grammar.Prediction.{Prediction}}
use Rattle.ll_grammar.proofs.fault.read.Given as goal

-- the prediction of the symbols that are left is the prediction of all
abbrev pub invariant-loop-symbol : goal.invariant-loop-symbol
invariant-loop-symbol g l = record {
  ready : IsReady g.N.Grammar.rules g.N.Grammar.follow (reverse l.stack.items);
  same : (prediction : Prediction) (after : _)
      → IsRead g.N.Grammar.rules g.N.Grammar.follow (reverse l.stack.items) l.class prediction after
      → IsRead g.N.Grammar.rules g.N.Grammar.follow (reverse l.initial.stack.items) l.class prediction after;
}

abbrev pub decreases-loop-symbol : goal.decreases-loop-symbol
decreases-loop-symbol g l = length l.stack.items
