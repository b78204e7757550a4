use Rattle.std.proofs.{Common.{◌-◌, ◌∷◌, [], length, set, ap, refl, arith}, lemmas.{List.{length-append}, Option.{slice_get_within}}}
use Rattle.graph_check.proofs.ColumnFlags.{column_at, column_found, columns_more, columns_same, flag_leads, flag_read, joins_leads}
use Rattle.graph_check.proofs.columns.Columns.leads.Goals as goal

pub index-requires : goal.index-requires
index-requires c =
    let known = column_at c.args.adjacency.now c.args.self.now c.args.b c.index-slot.result.now c.requires.columns
    c.requires.b_in c.if-slot-gt0.true c.index-slot.ensures in
    let low = slice_get_within c.args.self.now.columns.items (c.index-slot.result.now - 1) known.0 known.1 in
    omega (arith, low, c.args.self.now.columns.ok)

pub index-requires-then-slot-gt0 : goal.index-requires-then-slot-gt0
index-requires-then-slot-gt0 c =
    let is = column_found c.args.adjacency.now c.args.self.now c.args.b c.index-slot.result.now c.requires.columns
    c.requires.b_in c.if-slot-gt0.true c.index-slot.ensures
    c.index.result.now c.index.ensures in
    let sized = is.sized in
    omega (arith, sized, c.requires.a_in, c.index.result.now.ok)

pub returns-then-slot-gt0-clause-leads : goal.returns-then-slot-gt0-clause-leads
returns-then-slot-gt0-clause-leads c =
    let v = c.args.adjacency.now in
    let is = column_found v c.args.self.now c.args.b c.index-slot.result.now c.requires.columns c.requires.b_in c.if-slot-gt0.true c.index-slot.ensures
    c.index.result.now c.index.ensures in
    flag_leads v c.args.b c.args.a c.index.result.now.items c.index-then-slot-gt0.result.now is c.requires.a_in
    (let sized = is.sized in flag_read c.index.result.now.items c.args.a c.index-then-slot-gt0.result.now
    (omega (arith, sized, c.requires.a_in)) c.index-then-slot-gt0.ensures)

pub returns-in_err-push-clause-columns : goal.returns-in_err-push-clause-columns
returns-in_err-push-clause-columns c = columns_same c.args.adjacency.now c.args.self.now _ c.requires.columns refl c.in_err-push.ensures.items

pub returns-clause-columns : goal.returns-clause-columns
returns-clause-columns c =
    columns_more c.args.adjacency.now c.args.self.now _ c.args.b c.in_ok-column.column c.requires.columns c.requires.b_in c.in_ok-column.ensures
    (ap (set c.args.self.now.slots.items c.args.b) (let n = ap length c.in_ok-push.ensures.items in
    let m = length-append c.args.self.now.columns.items (c.in_ok-column.column ∷ []) in omega (arith, c.len.ensures, n, m)))
    c.in_ok-push.ensures.items

pub returns-then-joins-clause-leads : goal.returns-then-joins-clause-leads
returns-then-joins-clause-leads c = joins_leads c.args.adjacency.now c.args.a c.args.b (c.joins.ensures.0 c.if-joins.true)

pub index-leads-requires : goal.index-leads-requires
index-leads-requires c = (let sized = c.in_ok-column.ensures.sized in omega (arith, sized, c.requires.a_in, c.in_ok-column.column.ok))

pub index_mut-requires : goal.index_mut-requires
index_mut-requires c = (let sized = c.requires.columns.sized in omega (arith, sized, c.requires.b_in, c.args.self.now.slots.ok))

pub returns-clause-leads : goal.returns-clause-leads
returns-clause-leads c =
    let is = c.in_ok-column.ensures in
    flag_leads c.args.adjacency.now c.args.b c.args.a c.in_ok-column.column.items c.index-leads.result.now is c.requires.a_in
    (let sized = is.sized in flag_read c.in_ok-column.column.items c.args.a c.index-leads.result.now
    (omega (arith, sized, c.requires.a_in)) c.index-leads.ensures)
