use Rattle.std.proofs.Common.{not, eqb, arith}
use Rattle.undo_trail.proofs.MeetsWords.{met_more, met_all, columns_meet}
use Rattle.undo_trail.proofs.kernels.meets_words.Goals as goal

pub loop-k-preserved : goal.loop-k-preserved
loop-k-preserved c = met_more c.args.a.now c.args.b.now c.loop-k.k c.loop-k.met c.loop-k.invariant

pub returns-clause-words : goal.returns-clause-words
returns-clause-words c = met_all c.args.a.now c.args.b.now c.loop-k.k c.loop-k.met c.loop-k.invariant c.loop-k.auto.k-end c.loop-k-test.false

pub returns-clause-columns : goal.returns-clause-columns
returns-clause-columns c =
    columns_meet c.args.a.now c.args.b.now (not (eqb c.loop-k.met 0)) (λ i. let fits = c.type_inv.a i in omega arith)
    (met_all c.args.a.now c.args.b.now c.loop-k.k c.loop-k.met c.loop-k.invariant c.loop-k.auto.k-end c.loop-k-test.false)
