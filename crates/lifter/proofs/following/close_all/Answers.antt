use Rattle.std.proofs.{Common.{◌∷◌, [], List, length, refl, sym, ap, subst, arith}, lemmas.Result.{on_ok_weaker}}
use Rattle.pc_ground.{specs.{Stages.{plain_axioms}, GroundTree.{closed_ground_tree}}, proofs.FlatRows.{size_pos, length_rows}}
use Rattle.lifted_facts.specs.{PlainFacts.{root}, Lifted.{LiftedStep, Runs}}
use Rattle.lifter.proofs.RootTrees.{axioms_never, tree_open, axioms_open, root_tree, stands_whole, begun}
use Rattle.lifter.proofs.following.close_all.Goals as goal

pub row-requires : goal.row-requires
row-requires c =
    let t = closed_ground_tree c.args.case.now (plain_axioms c.args.axioms.now) in
    let many = ap length c.requires.tree in
    omega (arith, many, length_rows t, size_pos t)

pub close_axiom-requires-clause-kind : goal.close_axiom-requires-clause-kind
close_axiom-requires-clause-kind c =
    axioms_never c.args.case.now (plain_axioms c.args.axioms.now) c.args.tree.now c.row.result c.requires.tree c.row.ensures.row c.in-False.is

pub unfold_axioms-requires-clause-kind : goal.unfold_axioms-requires-clause-kind
unfold_axioms-requires-clause-kind c =
    axioms_open c.args.case.now (plain_axioms c.args.axioms.now)
    (tree_open c.args.case.now (plain_axioms c.args.axioms.now) c.args.tree.now c.row.result c.args.refutation.now c.requires.tree c.row.ensures.row
    c.in_default.not-False c.requires.refuted)

pub unfold_axioms-requires-clause-stands : goal.unfold_axioms-requires-clause-stands
unfold_axioms-requires-clause-stands c =
    stands_whole (closed_ground_tree c.args.case.now (plain_axioms c.args.axioms.now)) _ c.args.tree.now c.requires.tree
    (root_tree c.args.case.now (plain_axioms c.args.axioms.now))

pub follow-requires : goal.follow-requires
follow-requires c =
    let case = c.args.case.now in let axioms = plain_axioms c.args.axioms.now in let s = c.args.state.now in
    let unfolded = c.in_ok-unfold_axioms-in_default.ensures in
    let open_tree = tree_open case axioms c.args.tree.now c.row.result c.args.refutation.now c.requires.tree c.row.ensures.row c.in_default.not-False
    c.requires.refuted in
    record {
      kept = unfolded.moves.kept c.requires.kept;
      ahead = (
        root axioms ∷ [],
        begun case c.args.tree.now axioms c.args.refutation.now s c.unfold_axioms.new.state c.requires.tree c.requires.refuted open_tree
            c.requires.facts c.requires.none.0 c.requires.none.1 c.requires.none.2 unfolded,
      );
    }

pub returns-in-False : goal.returns-in-False
returns-in-False c =
    let axioms = plain_axioms c.args.axioms.now in
    let P : List LiftedStep → Type 0 = λ ss. Runs c.args.case.now ss (root axioms ∷ []) (root axioms ∷ []) in
    on_ok_weaker c.close_axiom.result (λ h. h (root axioms ∷ []) [] (subst P (sym c.requires.none.2) refl)) c.close_axiom.ensures

pub returns-in_ok-unfold_axioms-in_default : goal.returns-in_ok-unfold_axioms-in_default
returns-in_ok-unfold_axioms-in_default c =
    let case = c.args.case.now in let axioms = plain_axioms c.args.axioms.now in let s = c.args.state.now in
    let open_tree = tree_open case axioms c.args.tree.now c.row.result c.args.refutation.now c.requires.tree c.row.ensures.row c.in_default.not-False
    c.requires.refuted in
    on_ok_weaker c.follow.result (λ h. h (root axioms ∷ [])
    (begun case c.args.tree.now axioms c.args.refutation.now s c.unfold_axioms.new.state c.requires.tree c.requires.refuted open_tree
    c.requires.facts c.requires.none.0 c.requires.none.1 c.requires.none.2 c.in_ok-unfold_axioms-in_default.ensures)) c.follow.ensures
