use Rattle.std.proofs.{Common.{◌-◌, length, arith}, lemmas.List.{length-replicate}}
use Rattle.solver.proofs.AreTruths.{truths_none}
use Rattle.solver.proofs.search.truths.truths.Goals as goal

pub loop-k-init : goal.loop-k-init
loop-k-init c = record {
  count = grind (arith, length-replicate);
  truths = truths_none c.args.rows.now c.args.graph.now.literals (length c.args.rows.now - 0) c.in_ok-truths.truths.items c.requires.tree (omega arith);
}
