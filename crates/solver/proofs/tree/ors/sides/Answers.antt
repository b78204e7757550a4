use Rattle.std.{proofs.Common.{◌+◌, ℕ, refl, ap, arith}, specs.Prelude.{Option}}
use Rattle.solver.specs.{Spelled.{spelled}, Places.{place_signed}, declared.tree.side.Side.{Side}}
use Rattle.solver.proofs.{AreTruths.{or_sides, or_left_inside, or_right_inside, denied_in}, HasAsserted.{length_spelled}}
use Rattle.solver.proofs.tree.ors.sides.Goals as goal

pub row-requires : goal.row-requires
row-requires c = or_left_inside (spelled c.args.tree.now.rows) (place_signed c.args.place) c.requires.is_or

pub overflow_add-root : goal.overflow_add-root
overflow_add-root c =
    omega (
      arith,
      or_right_inside c.args.tree.now.rows (place_signed c.args.place) c.row.result c.row.ensures.numbered.tree c.requires.is_or c.row.ensures.row,
      c.row.ensures.bound,
      length_spelled c.args.tree.now.rows c.row.ensures.numbered.tree,
    )

pub returns-clause-sides : goal.returns-clause-sides
returns-clause-sides c =
    let place = c.args.place in
    let P : Option ℕ → Side = λ denied. record { negated = place.negated; root = place.position + 1 + c.row.result.skip; denied = denied } in
    or_sides c.args.tree.now.rows c.args.version (place_signed place) c.row.result _ _ c.row.ensures.numbered.tree
    c.row.ensures.row refl (ap P c.denied_left-denied.ensures)

pub returns-clause-left_in : goal.returns-clause-left_in
returns-clause-left_in c = (or_left_inside (spelled c.args.tree.now.rows) (place_signed c.args.place) c.requires.is_or, tt)

pub returns-clause-right_in : goal.returns-clause-right_in
returns-clause-right_in c =
    let t = spelled c.args.tree.now.rows in
    let left = or_left_inside t (place_signed c.args.place) c.requires.is_or in (
      or_right_inside c.args.tree.now.rows (place_signed c.args.place) c.row.result c.row.ensures.numbered.tree c.requires.is_or c.row.ensures.row,
      rw c.denied_left-denied.ensures (denied_in c.args.version t (c.args.place.position + 1) left),
    )
