use Rattle.std.proofs.{Common.{◌≡◌, ◌+◌, ◌*◌, ◌/◌, ◌%◌, get_or, ap, refl, arith}, lemmas.{List.{get_or_read}, Nat.Bits.{shr_and_one}}}
use Rattle.undo_trail.{specs.Bits.{has}, proofs.BitWords.{place_in}}
use Rattle.undo_trail.proofs.table.UndoTable.bit.Goals as goal

pub returns : goal.returns
unfolding has
returns c =
    let s = c.self.inside in
    let place = c.args.r * s.words + c.args.c / 64 in
    let rows = ap (λ v. v.rows) c.self.view_is in
    let words = ap (λ v. v.words) c.self.view_is in
    let row_in = c.requires.row_in in let column_in = c.requires.column_in in
    let below = place_in c.args.r c.args.c s.rows s.words (omega arith) (omega arith) in
    let size = c.self.invariant.1.all in
    let word : c.index.result.now ≡ get_or s.table.items place 0 =
    get_or_read s.table.items place c.index.result.now (omega arith) c.index.ensures 0 in
    rw (shr_and_one c.index.result.now (c.args.c % 64), word, ← c.self.view_is) refl
