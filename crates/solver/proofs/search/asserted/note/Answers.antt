use Rattle.pc_common.proofs.Bools.{clash}
use Rattle.solver.proofs.IsIndexed.{put_kept, pushed_new}
use Rattle.solver.proofs.search.asserted.note.Goals as goal

pub returns-clause-indexed : goal.returns-clause-indexed
returns-clause-indexed c =
    put_kept c.args.items.now c.args.index.now.items c.put_at.new.index.items c.args.place c.slot_of.result _ c.requires.indexed
    (λ has. clash (c.is_on.ensures.1 has) c.if-is_on.false) c.slot_of.ensures c.in_ok-put_at.ensures.put

pub returns-clause-noted : goal.returns-clause-noted
returns-clause-noted c =
    pushed_new c.args.items.now c.args.index.now.items c.put_at.new.index.items c.args.place c.slot_of.result c.requires.indexed
    (λ has. clash (c.is_on.ensures.1 has) c.if-is_on.false) c.slot_of.ensures c.in_ok-put_at.ensures.put
