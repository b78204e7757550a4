-- The walk over a side's rows comes to the positions that the side asserts, and to no others.
use Rattle.std.{proofs.{Common.{◌≡◌, ℕ, ◌+◌, ◌<◌, ◌≤◌, List, [], ◌∷◌, ◌++◌, Some, refl, sym, ap, subst, arith, append_assoc}, lemmas.List.{append-nil}}, specs.Prelude.{slice_get}}
use Rattle.pc_ground.specs.{declared.row.Row.{Row}, Tree.{Tree, always, never, leaf, both, either, size_of}, Rows.{rows_of, IsPart}, Refutes.{subtree_at, asserted}}
use Rattle.pc_ground.{specs.Walks.{stride, Walk, at_end, onward}, proofs.FlatRows.{parts_both, part_row, root_of, size_pos, subtree_part}}

-- through a part, where a walk goes on after it
pub walk_through : {N : Type 0} (rows : List (Row N)) (end : ℕ) (s : Tree N) (p : ℕ) (ps : List ℕ) → IsPart rows p s → p + size_of s ≤ end
    → Walk rows end (p + size_of s) ps → Walk rows end p (asserted s p ++ ps)
walk_through rows end always p ps part within walk = onward p (root_of always) (omega (arith, within)) (part_row rows p always part) walk
walk_through rows end never p ps part within walk = onward p (root_of never) (omega (arith, within)) (part_row rows p never part) walk
walk_through rows end (leaf l) p ps part within walk = onward p (root_of (leaf l)) (omega (arith, within)) (part_row rows p (leaf l) part) walk
walk_through rows end (either a b) p ps part within walk =
    onward p (root_of (either a b)) (omega (arith, within, size_pos (either a b))) (part_row rows p (either a b) part) walk
walk_through {N} rows end (both a b) p ps part within walk =
    let parts = parts_both rows p a b part in
    let P : ℕ → Type 0 = λ n. Walk rows end n ps in
    let behind : Walk rows end (p + 1 + size_of a + size_of b) ps =
    subst P (let same : p + size_of (both a b) ≡ p + 1 + size_of a + size_of b = omega arith in same) walk in
    let right = walk_through rows end b (p + 1 + size_of a) ps parts.1 (omega (arith, within)) behind in
    let left = walk_through rows end a (p + 1) (asserted b (p + 1 + size_of a) ++ ps) parts.0 (omega (arith, within)) right in
    let Q : List ℕ → Type 0 = λ xs. Walk rows end (p + 1) xs in
    onward p (root_of (both a b)) (omega (arith, within)) (part_row rows p (both a b) part)
    (subst Q (sym (append_assoc (asserted a (p + 1)) (asserted b (p + 1 + size_of a)) ps)) left)

-- the walk over a whole part
pub walk_part : {N : Type 0} (rows : List (Row N)) (s : Tree N) (p : ℕ) → IsPart rows p s → Walk rows (p + size_of s) p (asserted s p)
walk_part rows s p part =
    let Q : List ℕ → Type 0 = λ xs. Walk rows (p + size_of s) p xs in
    subst Q (append-nil (asserted s p)) (walk_through rows (p + size_of s) s p [] part (omega arith) at_end)

-- the walk over a side of a tree
pub walk_side : {N : Type 0} (t : Tree N) (p : ℕ) (s : Tree N) → subtree_at t p ≡ Some s → Walk (rows_of t) (p + size_of s) p (asserted s p)
walk_side t p s at = walk_part (rows_of t) s p (subtree_part t p s at)

-- one turn: before its end a walk is at a position, and goes on after it
pub walk_turn : {N : Type 0} {rows : List (Row N)} {end at : ℕ} {ps : List ℕ} → Walk rows end at ps → at < end
    → (r : Row N) × (rest : List ℕ) × (slice_get rows at ≡ Some r) × (ps ≡ at ∷ rest) × Walk rows end (at + stride r) rest
walk_turn at_end before = absurd (omega (arith, before))
walk_turn (onward {ps} at r before row walk) inside = (r, ps, row, refl, walk)

-- at its end it has come to all of them
pub walk_done : {N : Type 0} {rows : List (Row N)} {end at : ℕ} {ps : List ℕ} → Walk rows end at ps → end ≤ at → ps ≡ []
walk_done at_end past = refl
walk_done (onward at r before row walk) past = absurd (omega (arith, before, past))

-- it does not go past its end
pub walk_within : {N : Type 0} {rows : List (Row N)} {end at : ℕ} {ps : List ℕ} → Walk rows end at ps → at ≤ end
walk_within at_end = omega arith
walk_within (onward at r before row walk) = omega (arith, before)
