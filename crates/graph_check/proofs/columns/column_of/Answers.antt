use Rattle.std.{proofs.{Common.{Bool, ◌+◌, get_or, sym, subst, arith}, lemmas.Option.{slice_get-get_or}}, specs.Global.{Vec}}
use Rattle.pc_common.proofs.Places.{in_at}
use Rattle.graph_check.proofs.{ColumnFlags.{AreFlags, begun_passed, begun_set, column_done}, columns.column_of.Goals.{then-leads, else-leads}}
use Rattle.graph_check.proofs.columns.column_of.Goals as goal

pub leads-requires-clause-a_in : goal.leads-requires-clause-a_in
leads-requires-clause-a_in c =
    let order = c.args.order.now in
    c.requires.order.known (get_or order c.loop-a.a-index 0)
    (in_at order c.loop-a.a-index (get_or order c.loop-a.a-index 0) (slice_get-get_or order c.loop-a.a-index 0 c.loop-a-test.true))

pub index_mut-requires : goal.index_mut-requires
index_mut-requires c =
    let order = c.args.order.now in let k = c.loop-a.a-index in
    let a = get_or order k 0 in
    let low = c.requires.order.known a (in_at order k a (slice_get-get_or order k 0 c.loop-a-test.true)) in
    let sized = c.loop-a.invariant.sized in
    omega (arith, low, sized, c.loop-a.column.ok)

pub loop-a-preserved : goal.loop-a-preserved
loop-a-preserved c =
    let v = c.args.adjacency.now in let order = c.args.order.now in let k = c.loop-a.a-index in
    let a = get_or order k 0 in
    let at = slice_get-get_or order k 0 c.loop-a-test.true in
    let is = rw c.deref.ensures.value at c.leads.ensures in
    let P : Vec Bool → Type 0 = λ u. AreFlags v c.args.b order u.items (k + 1) in
    let low = c.requires.order.known a (in_at order k a at) in
    let sized = c.loop-a.invariant.sized in
    elim c.if-leads.branch [
      | then-leads w ↦ subst P (sym w.column-is)
          (begun_set v c.args.b order c.loop-a.column.items k a c.requires.order at c.loop-a.invariant c.leads.result is w.if-leads.true
          (omega (arith, low, sized)))
      | else-leads w ↦ subst P (sym w.column-is)
          (begun_passed v c.args.b order c.loop-a.column.items k a c.requires.order at c.loop-a.invariant c.leads.result is w.if-leads.false)
    ]

pub returns : goal.returns
returns c =
    column_done c.args.adjacency.now c.args.b c.args.order.now c.loop-a.column.items c.loop-a.a-index c.requires.order c.loop-a.invariant c.loop-a-test.false
