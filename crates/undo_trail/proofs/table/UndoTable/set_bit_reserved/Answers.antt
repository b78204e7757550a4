use Rattle.std.proofs.Common.{◌≡◌, ◌∙◌, ◌<◌, ◌*◌, ◌+◌, ◌/◌, ◌%◌, ◌^◌, ◌-◌, List, ℕ, length, vec_len, vec_capacity, get_or, set, bit_or, ap, subst, arith}
use Rattle.std.proofs.lemmas.List.{with_items_is, get_or_read}
use Rattle.undo_trail.{specs.{BitTable.{Extends}, Trail.{table_of}}, proofs.BitWords.{has_set, place_in}}
use Rattle.undo_trail.proofs.table.UndoTable.set_bit_reserved.Goals as goal

pub returns-clause-set : goal.returns-clause-set
returns-clause-set c =
    let s = c.self.inside in
    let t : List ℕ = s.table.items in
    let u = c.put.new.table in
    let place = c.args.r * s.words + c.args.c / 64 in
    let size : length u ≡ s.table.len = c.put.auto.table ∙ c.deref_mut.ensures.len in
    let rows = ap (λ v. v.rows) c.self.view_is in
    let words = ap (λ v. v.words) c.self.view_is in
    let row_in = c.requires.row_in in let column_in = c.requires.column_in in
    let column_low : c.args.c < 64 * s.words = omega arith in
    let below = place_in c.args.r c.args.c s.rows s.words (omega arith) column_low in
    let all = c.self.invariant.1.all in
    let inside : place < length t = omega arith in
    let word : c.index.result.now ≡ get_or t place 0 = get_or_read t place c.index.result.now inside c.index.ensures 0 in
    rw (← c.self.view_is, with_items_is s.table u size)
    (λ q d qh dh. has_set t s.words c.args.r c.args.c u inside column_low
    (c.put.ensures.set ∙ ap (λ x. set x place (bit_or c.index.result.now (1 * 2 ^ (c.args.c % 64) % 2 ^ 64))) c.deref_mut.ensures.value
    ∙ ap (λ w. set t place (bit_or w (1 * 2 ^ (c.args.c % 64) % 2 ^ 64))) word) q d dh)

pub returns-clause-trail : goal.returns-clause-trail
returns-clause-trail c =
    let s = c.self.inside in let u = c.put.new.table in
    let size : length u ≡ s.table.len = c.put.auto.table ∙ c.deref_mut.ensures.len in
    let room = vec_capacity s.trail - vec_len s.trail in
    let left = vec_capacity c.put.new.trail - vec_len c.put.new.trail in
    let P : List ℕ → Type 0 = λ t. Extends (table_of s.rows s.words room s.trail.items t) (table_of s.rows s.words left c.put.new.trail.items u) 1 in
    rw (← c.self.view_is, with_items_is s.table u size) (subst P c.deref_mut.ensures.value (c.put.ensures.grows.extends s.rows s.words room left))
