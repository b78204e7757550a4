use Rattle.std.proofs.{Common.{◌≡◌, ◌∙◌, ◌*◌, ◌/◌, get_or, sym, ap, arith}, lemmas.Bool.{both_ways, MatchBool-at_false}}
use Rattle.undo_trail.{specs.BitTable.{bit_now}, proofs.BitWords.{column-clear}}
use Rattle.order_graph.{specs.Rows.{denier_row, leads_to, IsDeniedPast, IsDeniedNowherePast}, proofs.ClashOf.{joins_none_more}}
use Rattle.order_graph.proofs.clashes.word_joins_denied.Goals.{else-is_denier-via-then-is_denier+then-leads_to+else-is_denied_past, else-is_denier-via-then-is_denier+else-leads_to, else-is_denier-via-else-is_denier}
use Rattle.order_graph.proofs.clashes.word_joins_denied.Goals as goal

pub returns-then-deniers-word-eq0 : goal.returns-then-deniers-word-eq0
returns-then-deniers-word-eq0 c = λ x y low high inside columns denier over.
    let row = c.row-deniers.result.now in let wide = c.requires.sized.1 in
    let word : x / 64 ≡ c.args.word = omega arith in
    let clear = column-clear row x (ap (λ k. get_or row k 0) word ∙ c.if-deniers-word-eq0.true) in
    absurd (both_ways (bit_now c.args.table.now (denier_row c.args.nodes) x) (sym (c.row-deniers.ensures.columns x (omega arith)) ∙ clear) denier)

pub bounds-deniers-word : goal.bounds-deniers-word
bounds-deniers-word c =
    let size = c.row-deniers.ensures.len in let inside = c.requires.word_in in let wide = c.requires.sized.1 in omega arith

pub returns-then-is_denied_past : goal.returns-then-is_denied_past
returns-then-is_denied_past c =
    let (y, column, leads, pair) = c.if-is_denied_past.ensures in
    let below = c.loop-x-test.true in let end = c.end_of_word-x-end.ensures.low in
    (c.loop-x.x, y, omega arith, column, (sym c.leads_to.ensures ∙ c.if-leads_to.true, leads), pair)

pub loop-x-preserved : goal.loop-x-preserved
loop-x-preserved c =
    let v = c.args.table.now in let n = c.args.nodes in let a = c.args.a in let b = c.args.b in let k = c.loop-x.x in
    joins_none_more n v a b (64 * c.args.word) k c.loop-x.invariant (λ y column denier over. elim c.else-is_denier.branch [
      | else-is_denier-via-then-is_denier+then-leads_to+else-is_denied_past w ↦
          MatchBool-at_false (IsDeniedPast n v k b) (IsDeniedNowherePast n v k b) w.if-is_denied_past.false w.is_denied_past.ensures y column over.1
      | else-is_denier-via-then-is_denier+else-leads_to w ↦
          absurd (both_ways (leads_to v k a) (sym w.leads_to.ensures ∙ w.if-leads_to.false) over.0)
      | else-is_denier-via-else-is_denier w ↦
          absurd (both_ways (bit_now v (denier_row n) k) (sym c.is_denier.ensures ∙ w.if-is_denier.false) denier)
    ])
