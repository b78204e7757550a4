use Rattle.std.proofs.Common.{◌≡◌, ◌∙◌, ◌+◌, ◌-◌, ◌≤◌, ℕ, Bool, true, false, if◌then◌else◌, sym, ap, arith}
use Rattle.undo_trail.specs.BitTable.{BitTable}
use Rattle.order_graph.{specs.Rows.{row_words, words_gained}, proofs.CloseOver.{closing_first, closing_last, sink_stays, closing_passed, closing_joined, words_passed, words_joined, words_rise}}
use Rattle.order_graph.proofs.rows.close_over.Goals.{then-gains, else-gains}
use Rattle.order_graph.proofs.rows.close_over.Goals as goal

low_words : (v : BitTable) (is_sink : Bool) → row_words v is_sink ≤ v.words + 1
low_words v true = omega arith
low_words v false = omega arith

same_row : (v w : BitTable) (is_sink : Bool) → w.words ≡ v.words → row_words w is_sink ≡ row_words v is_sink
same_row v w is_sink e = ap (λ (n : ℕ). if is_sink then 1 else n + 1) e

pub loop-x-init : goal.loop-x-init
loop-x-init g c = record { closing = closing_first c.args.table.now c.args.a c.args.b; room = omega arith; cost = omega arith }

pub join_row-requires-clause-sink : goal.join_row-requires-clause-sink
join_row-requires-clause-sink g c =
    let rows = c.requires.sized.0 in let b_in = c.requires.b_in in
    sink_stays c.args.table.now c.loop-x.table c.args.a c.args.b c.loop-x.x c.args.is_sink c.loop-x.invariant.closing (omega arith)
    c.requires.takes.no_cycle c.requires.sink

pub join_row-requires-clause-room : goal.join_row-requires-clause-room
join_row-requires-clause-room g c =
    let v = c.args.table.now in let w = c.loop-x.table in let k = c.loop-x.x in
    let closing = c.loop-x.invariant.closing in
    let each = row_words v c.args.is_sink in
    let (rows, wide, few) = c.requires.sized in
    let below = c.loop-x-test.true in let a_in = c.requires.a_in in let b_in = c.requires.b_in in
    let same = same_row v w c.args.is_sink closing.extends.same_words in
    let next = words_joined v w c.args.a c.args.b each k closing (omega arith) (omega arith) (omega arith) (sym c.gains.ensures ∙ c.if-gains.true) in
    let rise = words_rise v c.args.a c.args.b each (k + 1) (c.args.nodes - (k + 1)) in
    let all : (k + 1) + (c.args.nodes - (k + 1)) ≡ c.args.nodes = omega arith in
    let whole = ap (words_gained v c.args.a c.args.b each) all in
    let before = c.loop-x.invariant.room in let room = c.requires.room in
    omega arith

pub loop-x-preserved : goal.loop-x-preserved
loop-x-preserved g c =
    let v = c.args.table.now in let w = c.loop-x.table in let k = c.loop-x.x in
    let closing = c.loop-x.invariant.closing in
    let each = row_words v c.args.is_sink in
    let (rows, wide, few) = c.requires.sized in
    let below = c.loop-x-test.true in let a_in = c.requires.a_in in let b_in = c.requires.b_in in
    let before = c.loop-x.invariant.room in let taken = c.loop-x.invariant.cost in
    let same = same_row v w c.args.is_sink closing.extends.same_words in
    elim c.if-gains.branch [
      | then-gains j ↦
          let gain = sym c.gains.ensures ∙ j.if-gains.true in
          let next = words_joined v w c.args.a c.args.b each k closing (omega arith) (omega arith) (omega arith) gain in
          let low = low_words v c.args.is_sink in
          record {
            closing = rw j.table-is
                (closing_joined c.args.nodes v w j.join_row.new.table c.args.a c.args.b k (row_words w c.args.is_sink) closing c.requires.sized below a_in
                b_in c.requires.takes
                gain j.join_row.ensures.joined (omega arith) j.join_row.ensures.trail);
            room = (let left = j.join_row.ensures.room in let table = ap (λ (u : BitTable). u.room) j.table-is in omega arith);
            cost = (let steps = j.steps-is ∙ j.tick.ensures in omega arith);
          }
      | else-gains j ↦
          let none = sym c.gains.ensures ∙ j.if-gains.false in
          let next = words_passed v w c.args.a c.args.b each k closing (omega arith) (omega arith) (omega arith) none in
          record {
            closing = rw j.table-is (closing_passed c.args.nodes v w c.args.a c.args.b k closing c.requires.sized below a_in b_in c.requires.takes none);
            room = (let table = ap (λ (u : BitTable). u.room) j.table-is in omega arith);
            cost = (let steps = j.steps-is in omega arith);
          }
    ]

pub returns-clause-closed : goal.returns-clause-closed
returns-clause-closed g c =
    let ended = c.loop-x-test.false in let low = c.loop-x.auto.x-end in
    (closing_last c.args.table.now c.loop-x.table c.args.a c.args.b c.loop-x.x c.args.nodes c.loop-x.invariant.closing (omega arith)).new

pub returns-clause-others : goal.returns-clause-others
returns-clause-others g c =
    let ended = c.loop-x-test.false in let low = c.loop-x.auto.x-end in
    (closing_last c.args.table.now c.loop-x.table c.args.a c.args.b c.loop-x.x c.args.nodes c.loop-x.invariant.closing (omega arith)).old

pub returns-clause-trail : goal.returns-clause-trail
returns-clause-trail g c =
    let ended = c.loop-x-test.false in let low = c.loop-x.auto.x-end in
    (closing_last c.args.table.now c.loop-x.table c.args.a c.args.b c.loop-x.x c.args.nodes c.loop-x.invariant.closing (omega arith)).extends
