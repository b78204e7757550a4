use Rattle.std.proofs.Common.{arith}
use Rattle.uspec_lexer.{specs.View.{plain}, proofs.Seen.{seen_more}}
use Rattle.uspec_lexer.proofs.list.Tokens.terminals.Goals as goal

pub loop-k-preserved : goal.loop-k-preserved
loop-k-preserved g c =
    seen_more g.T.FromToken.seen c.args.self.now c.loop-k.k (plain c.get.result) c.from_token.result _ _
    c.get.ensures (omega arith) c.from_token.ensures c.loop-k.invariant c.in_ok-push.ensures.items
