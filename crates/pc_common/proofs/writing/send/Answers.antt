use Rattle.std.proofs.Common.{rules}
use Rattle.pc_common.proofs.Moves.{went_on}
use Rattle.pc_common.proofs.writing.send.Goals as goal

pub loop-at-preserved : goal.loop-at-preserved
loop-at-preserved g c = record {
  within = search rules;
  same_modelled = search rules;
  count = search rules;
  bytes = λ told. went_on (g.K.Sink.view c.args.sink.now).taken (g.K.Sink.view c.loop-at.sink).taken
      (g.K.Sink.view c.write.new.self).taken c.args.piece.now c.loop-at.at c.in-Ok.n
      (c.loop-at.invariant.bytes told) (c.in-Ok.ensures.bytes (search rules));
}
