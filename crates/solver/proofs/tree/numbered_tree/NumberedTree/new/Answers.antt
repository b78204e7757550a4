use Rattle.std.proofs.Common.{◌≡◌, ap, ◌∙◌, length, map, arith}
use Rattle.pc_ground.specs.Keys.{key_node}
use Rattle.solver.{specs.{Renamed.{tree_over, node_at}, Spelled.{spelled}}, proofs.IsKnown.{rows_known}}
use Rattle.solver.proofs.IsTurn.{names_tree, folded_numbers}
use Rattle.solver.proofs.tree.numbered_tree.NumberedTree.new.Goals as goal

pub number_rows-requires : goal.number_rows-requires
number_rows-requires c =
    let flat = c.len-positions.ensures.one_tree in record {
      known = rows_known c.args.numbering.now flat.0 c.args.tree.now flat.1 (c.requires.numbered flat.0 flat.1);
    }

pub invariant_of-result : goal.invariant_of-result
invariant_of-result c =
    let flat = c.len-positions.ensures.one_tree in
    let rows = c.in_ok-rows.rows.items in
    let nodes = c.args.numbering.now in
    let named : map key_node c.in_ok-keys.keys.items ≡ nodes = c.in_ok-keys.ensures in
    let names = names_tree nodes rows flat.0 (c.in_ok-rows.ensures.is ∙ flat.1) in record {
      tree = names.0;
      folded = folded_numbers (node_at nodes) (spelled rows) (rw names.1 (c.requires.folded flat.0 flat.1));
      few = omega (arith, ap length named, c.len-count.ensures.bound);
      distinct = rw named c.len-count.ensures.distinct;
      below = rw named c.in_ok-rows.ensures.below;
    }

pub returns-clause-tree : goal.returns-clause-tree
returns-clause-tree c = λ t e.
    let rows = c.in_ok-rows.rows.items in
    ap (λ ns. tree_over ns (spelled rows)) c.in_ok-keys.ensures ∙ (names_tree c.args.numbering.now rows t (c.in_ok-rows.ensures.is ∙ e)).1
