use Rattle.std.proofs.{Common.{◌≡◌, ◌∙◌, ◌*◌, length, take, drop, ap, arith, add-one}, lemmas.List.{with_items_is, length_push}}
use Rattle.undo_trail.{specs.Trail.{back}, proofs.{Back.{length-past, past_split}, Grows.{trail_cut}}}
use Rattle.undo_trail.proofs.table.UndoTable.undo.Goals as goal

pub restore-requires-clause-live : goal.restore-requires-clause-live
restore-requires-clause-live g c =
    let s = c.self.inside in let live = c.requires in
    let all = ap (λ v. length v.past) c.self.view_is in
    let changes = length-past s.trail.items s.table.items in
    let list = ap length c.deref.ensures.value in
    let pushed = length_push c.args.self.now.past c.args.self.now.now in
    let keep = c.changes-keep.ensures in
    omega arith

pub invariant_of-self : goal.invariant_of-self
invariant_of-self g c =
    let s = c.self.inside in let u = c.restore.new.table in
    let trail_is : c.truncate.new.self.items ≡ take c.args.mark s.trail.items =
    c.truncate.ensures.items ∙ ap (λ n. take n s.trail.items) c.changes-keep.ensures in
    let table_is : u ≡ back (drop c.args.mark s.trail.items) s.table.items =
    c.restore.ensures.table ∙ ap (λ t. back (drop c.changes-keep.result c.deref.result.now) t) c.deref_mut.ensures.value
    ∙ ap (λ cs. back (drop c.changes-keep.result cs) s.table.items) c.deref.ensures.value
    ∙ ap (λ n. back (drop n s.trail.items) s.table.items) c.changes-keep.ensures in
    let size : length u ≡ s.table.len = c.restore.auto.table ∙ c.deref_mut.ensures.len in (
      c.self.invariant.0,
      rw (with_items_is s.table u size, trail_is, table_is)
          (trail_cut (s.rows * s.words) c.args.mark s.trail.items s.table.items c.self.invariant.1),
    )

pub returns-clause-tables : goal.returns-clause-tables
returns-clause-tables g c =
    let s = c.self.inside in let u = c.restore.new.table in
    let trail_is : c.truncate.new.self.items ≡ take c.args.mark s.trail.items =
    c.truncate.ensures.items ∙ ap (λ n. take n s.trail.items) c.changes-keep.ensures in
    let table_is : u ≡ back (drop c.args.mark s.trail.items) s.table.items =
    c.restore.ensures.table ∙ ap (λ t. back (drop c.changes-keep.result c.deref.result.now) t) c.deref_mut.ensures.value
    ∙ ap (λ cs. back (drop c.changes-keep.result cs) s.table.items) c.deref.ensures.value
    ∙ ap (λ n. back (drop n s.trail.items) s.table.items) c.changes-keep.ensures in
    let size : length u ≡ s.table.len = c.restore.auto.table ∙ c.deref_mut.ensures.len in
    rw (← c.self.view_is, with_items_is s.table u size, trail_is, table_is, add-one) (past_split c.args.mark s.trail.items s.table.items)

pub returns-clause-cost : goal.returns-clause-cost
returns-clause-cost g c =
    let s = c.self.inside in
    let all = ap (λ v. length v.past) c.self.view_is in
    let changes = length-past s.trail.items s.table.items in
    let list = ap length c.deref.ensures.value in
    let keep = c.changes-keep.ensures in let counted = c.restore.ensures.cost in
    omega arith
