use Rattle.std.proofs.Common.{false}
use Rattle.std.proofs.lemmas.{List.{take_all, Elements.{All-more}}, Bool.{MatchBool-at_false}}
use Rattle.solver.specs.{Spelled.{spelled}, Places.{place_signed, IsChosen}, Opens.{positions}, declared.tree.place.Place.{Place}}
use Rattle.solver.proofs.IsChosen.{all_chosen}
use Rattle.solver.proofs.search.candidate.first_candidate.Goals as goal

pub loop-place-preserved : goal.loop-place-preserved
loop-place-preserved c =
    let xs = c.args.asserted.now in
    let other : Place = record { negated = false; position = 0 } in
    All-more (λ q. IsChosen (spelled c.args.tree.now.rows) (positions xs) (place_signed q)) xs c.loop-place.place-index other
    (rw c.as_slice-place-items.ensures at c.loop-place-test.true) c.loop-place.invariant
    (rw c.as_slice-place-items.ensures at (MatchBool-at_false _ _ c.if-is_candidate.false c.is_candidate.ensures))

pub returns : goal.returns
returns c =
    let xs = c.args.asserted.now in
    all_chosen (spelled c.args.tree.now.rows) xs
    (rw (take_all c.loop-place.place-index xs (rw c.as_slice-place-items.ensures at c.loop-place-test.false)) at c.loop-place.invariant)
