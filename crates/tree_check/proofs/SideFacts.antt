-- The walk over a part, and the branch that has all that the part asserts.
use Rattle.std.proofs.Common.{◌≡◌, ◌≤◌, ◌<◌, ℕ, ◌+◌, inl, inr, Bool, List, [], ◌∷◌, ◌++◌, Option, None, Some, length, take, refl, sym, ◌∙◌, ap, subst, arith, append_assoc}
use Rattle.std.{proofs.lemmas.{List.{append-nil, map-append}, Grind.{flat_map-append}}, specs.Prelude.{Contains, slice_get, option_map}}
use Rattle.pc_common.{specs.World.{Node}, proofs.Elements.{In, in_from_contains, contains_from_in, in_front, in_back, in_either, in_map, from_map}}
use Rattle.pc_ground.specs.declared.{node_key.NodeKey.{NodeKey}, literal.Literal.{Literal}, row.RowKind.{RowKind, TheVariants.{True, Lit}}}
use Rattle.pc_ground.specs.{declared.row.Row.{Row}, Keys.{key_node, renamed_kind}, Tree.{Tree, always, leaf, both, turned, size_of, never, either}}
use Rattle.pc_ground.specs.{Rows.{rows_of, turned_row, turned_rows, IsFlat}, Walks.{stride, stride_of, Walk}}
use Rattle.pc_ground.specs.Refutes.{Signed, signed, all_signed, Branch, subtree_at, asserted}
use Rattle.pc_ground.proofs.{FlatRows.{root_of, row_subtree, subtree_size, length_rows, children_both, rows_injective}, StageWalks.{some_same}}
use Rattle.pc_ground.proofs.{Turned.{size_turned, row_turned}, Walks.{walk_side, walk_turn, walk_done, walk_within}}
use Rattle.refutation.specs.BranchFacts.{PlainBranchFact, at_position, facts_of_literal}
use Rattle.tree_check.specs.Facts.{facts_of_part, facts_at, facts_of_kind, facts_on, HasAdded}
use Rattle.tree_check.specs.{Sides.{positions_of, positions_at}, OpenBranches.{IsClosedUnderAnd, IsBranch}}
use Rattle.tree_check.proofs.{BranchFacts.{position_of_fact, added_none, added_then, has_more, has_again, facts_none}, OrRows.{turned_flat}}

-- keys renamed, a row is as long
pub stride_node : (k : RowKind NodeKey) (n : ℕ) → stride_of (renamed_kind key_node k) n ≡ stride_of k n
stride_node True n = refl
stride_node _ n = refl

root_stride : {N : Type 0} (s : Tree N) → 0 < stride (root_of s)
root_stride always = omega arith
root_stride never = omega arith
root_stride (leaf l) = omega arith
root_stride (both a b) = omega arith
root_stride (either a b) = omega arith

-- how far a walk over the part at root is: the positions that are done, with their facts, and those that are to come
pub record HasWalked (rows : List (Row Node)) (n : Bool) (root end at : ℕ) (old new : List PlainBranchFact) : Type 0 where
  pub tree : Tree Node
  pub flat : rows ≡ rows_of tree
  pub side : Tree Node
  pub there : subtree_at (turned n tree) root ≡ Some side
  pub done : List ℕ
  pub coming : List ℕ
  pub walk : Walk (turned_rows n rows) end at coming
  pub whole : done ++ coming ≡ asserted side root
  pub added : HasAdded old (facts_on tree (all_signed n done)) new

-- the part that a row is the root of
part_of_row : (n : Bool) (rows : List (Row Node)) (t : Tree Node) (p : ℕ) (r : Row Node) → rows ≡ rows_of t → slice_get (turned_rows n rows) p ≡ Some r
    → (s : Tree Node) × (subtree_at (turned n t) p ≡ Some s) × (root_of s ≡ r)
part_of_row n rows t p r flat here = row_subtree (turned n t) p r (ap (λ xs. slice_get xs p) (sym (turned_flat n rows t flat)) ∙ here)

pub walked_start : (rows : List (Row Node)) (n : Bool) (root : ℕ) (r : Row Node) (facts : List PlainBranchFact) → IsFlat rows → slice_get rows root ≡ Some r
    → (root + r.skip ≤ length rows) × HasWalked rows n root (root + r.skip) root facts facts
walked_start rows n root r facts (t, flat) here =
    let u = turned n t in
    let turn : slice_get (turned_rows n rows) root ≡ Some (turned_row n r) = row_turned n rows root ∙ ap (option_map (turned_row n)) here in
    let sub = part_of_row n rows t root (turned_row n r) flat turn in
    let s = sub.0 in
    let skip : r.skip ≡ size_of s = ap (λ (x : Row Node). x.skip) (sym sub.2) in
    let P : List (Row Node) → ℕ → Type 0 = λ xs m. Walk xs (root + m) root (asserted s root) in
    let by_rows : P (turned_rows n rows) (size_of s) = subst (λ xs. P xs (size_of s)) (sym (turned_flat n rows t flat)) (walk_side u root s sub.1) in
    let size : length rows ≡ size_of u = ap length flat ∙ length_rows t ∙ sym (size_turned n t) in (
      omega (arith, skip, subtree_size u root s sub.1, size),
      record {
        tree = t;
        flat = flat;
        side = s;
        there = sub.1;
        done = [];
        coming = asserted s root;
        walk = subst (P (turned_rows n rows)) (sym skip) by_rows;
        whole = refl;
        added = added_none facts;
      },
    )

root_facts : (s : Tree Node) (q : Signed) → facts_of_kind q (root_of s).kind ≡ facts_of_part (Some s) q
root_facts always q = refl
root_facts _ q = refl

facts_here : (t : Tree Node) (n : Bool) (rows : List (Row Node)) (p : ℕ) (r : Row Node) → rows ≡ rows_of t → slice_get (turned_rows n rows) p ≡ Some r
    → facts_of_kind (signed n p) r.kind ≡ facts_at t (signed n p)
facts_here t n rows p r flat here =
    let sub = part_of_row n rows t p r flat here in
    ap (λ (x : Row Node). facts_of_kind (signed n p) x.kind) (sym sub.2) ∙ root_facts sub.0 (signed n p)
    ∙ ap (λ o. facts_of_part o (signed n p)) (sym sub.1)

pub walked_step : (rows : List (Row Node)) (n : Bool) (root end at : ℕ) (old mid new : List PlainBranchFact) (r : Row Node) → HasWalked rows n root end at old mid
    → at < end → slice_get (turned_rows n rows) at ≡ Some r → HasAdded mid (facts_of_kind (signed n at) r.kind) new
    → HasWalked rows n root end (at + stride r) old new
walked_step rows n root end at old mid new r w before here add =
    let turn = walk_turn w.walk before in
    let same : turn.0 ≡ r = some_same (sym turn.2 ∙ here) in
    let P : Row Node → Type 0 = λ x. Walk (turned_rows n rows) end (at + stride x) turn.1 in
    let Q : List PlainBranchFact → Type 0 = λ ks. HasAdded old ks new in
    let done = all_signed n w.done in
    let one : Branch = signed n at ∷ [] in
    let both : facts_on w.tree done ++ facts_of_kind (signed n at) r.kind ≡ facts_on w.tree (all_signed n (w.done ++ at ∷ [])) =
    ap (λ ks. facts_on w.tree done ++ ks) (facts_here w.tree n rows at r w.flat here ∙ sym (append-nil (facts_at w.tree (signed n at))))
    ∙ sym (flat_map-append (facts_at w.tree) done one) ∙ ap (facts_on w.tree) (sym (map-append (signed n) w.done (at ∷ []))) in record {
      tree = w.tree;
      flat = w.flat;
      side = w.side;
      there = w.there;
      done = w.done ++ at ∷ [];
      coming = turn.1;
      walk = subst P same turn.4;
      whole = append_assoc w.done (at ∷ []) turn.1 ∙ ap (λ xs. w.done ++ xs) (sym turn.3) ∙ w.whole;
      added = subst Q both (added_then w.added add);
    }

pub walked_first : (rows : List (Row Node)) (n : Bool) (root end at : ℕ) (old new : List PlainBranchFact) → HasWalked rows n root end at old new
    → take (length old) new ≡ old
walked_first rows n root end at old new w = w.added.same_first

pub walked_within : (rows : List (Row Node)) (n : Bool) (root end at : ℕ) (old new : List PlainBranchFact) → HasWalked rows n root end at old new → at ≤ end
walked_within rows n root end at old new w = walk_within w.walk

pub row_stride : (rows : List (Row Node)) (n : Bool) (at : ℕ) (r : Row Node) → IsFlat rows → slice_get (turned_rows n rows) at ≡ Some r → 0 < stride r
row_stride rows n at r (t, flat) here =
    let sub = part_of_row n rows t at r flat here in
    let P : Row Node → Type 0 = λ x. 0 < stride x in
    subst P sub.2 (root_stride sub.0)

pub walked_all : (rows : List (Row Node)) (n : Bool) (root end at : ℕ) (old new : List PlainBranchFact) → HasWalked rows n root end at old new → end ≤ at
    → (t : Tree Node) → rows ≡ rows_of t → HasAdded old (facts_on t (positions_at t n root)) new
walked_all rows n root end at old new w past t flat =
    let one : w.tree ≡ t = rows_injective w.tree t (sym w.flat ∙ flat) in
    let none : w.coming ≡ [] = walk_done w.walk past in
    let all : w.done ≡ asserted w.side root = sym (append-nil w.done) ∙ ap (λ xs. w.done ++ xs) (sym none) ∙ w.whole in
    let here : all_signed n w.done ≡ positions_at w.tree n root = ap (all_signed n) all ∙ ap (λ o. positions_of o n root) (sym w.there) in
    let P : List PlainBranchFact → Type 0 = λ ks. HasAdded old ks new in
    subst P (ap (facts_on w.tree) here ∙ ap (λ x. facts_on x (positions_at x n root)) one) w.added

-- a part of one literal asserts what the literal says
alone : (s : Tree Node) (p : ℕ) (l : Literal Node) → (root_of s).kind ≡ Lit l → asserted s p ≡ p ∷ []
alone (leaf m) p l e = refl
alone _ p l e = cc

facts_of_one : (t : Tree Node) (n : Bool) (rows : List (Row Node)) (root : ℕ) (r : Row Node) (l : Literal Node) → rows ≡ rows_of t
    → slice_get (turned_rows n rows) root ≡ Some r → r.kind ≡ Lit l → facts_of_literal l ≡ facts_on t (positions_at t n root)
facts_of_one t n rows root r l flat here is =
    let sub = part_of_row n rows t root r flat here in
    let kind : (root_of sub.0).kind ≡ Lit l = ap (λ (x : Row Node). x.kind) sub.2 ∙ is in
    let one : root ∷ [] ≡ asserted sub.0 root = sym (alone sub.0 root l kind) in
    ap (facts_of_kind (signed n root)) (sym is) ∙ facts_here t n rows root r flat here ∙ sym (append-nil (facts_at t (signed n root)))
    ∙ ap (λ ps. facts_on t (all_signed n ps)) one ∙ ap (λ o. facts_on t (positions_of o n root)) (sym sub.1)

at_root : (t s u : Tree Node) (root p q : ℕ) → subtree_at t root ≡ Some s → root ≡ p → subtree_at t p ≡ Some u → In q (asserted u p) → In q (asserted s root)
at_root t s u root p q at e f j =
    let same : u ≡ s = some_same (sym f ∙ ap (subtree_at t) (sym e) ∙ at) in
    let P : Tree Node → ℕ → Type 0 = λ x n. In q (asserted x n) in
    subst (P s) (sym e) (subst (λ x. P x p) same j)

-- with a position, a part has all that the part there asserts
side_whole : (t s : Tree Node) (root : ℕ) → subtree_at t root ≡ Some s → (p q : ℕ) (u : Tree Node) → In p (asserted s root) → subtree_at t p ≡ Some u
    → In q (asserted u p) → In q (asserted s root)
side_whole t always root at p q u (inl e) f j = at_root t always u root p q at e f j
side_whole t always root at p q u (inr i) f j = absurd i
side_whole t never root at p q u (inl e) f j = at_root t never u root p q at e f j
side_whole t never root at p q u (inr i) f j = absurd i
side_whole t (leaf l) root at p q u (inl e) f j = at_root t (leaf l) u root p q at e f j
side_whole t (leaf l) root at p q u (inr i) f j = absurd i
side_whole t (either a b) root at p q u (inl e) f j = at_root t (either a b) u root p q at e f j
side_whole t (either a b) root at p q u (inr i) f j = absurd i
side_whole t (both a b) root at p q u (inl e) f j = at_root t (both a b) u root p q at e f j
side_whole t (both a b) root at p q u (inr i) f j =
    let left = asserted a (root + 1) in
    let right = asserted b (root + 1 + size_of a) in
    let below = children_both t root a b at in
    elim (in_either p left right i) [
      | inl h ↦ inr (in_front q left right (side_whole t a (root + 1) below.0 p q u h f j))
      | inr h ↦ inr (in_back q left right (side_whole t b (root + 1 + size_of a) below.1 p q u h f j))
    ]

-- a branch with all that a part asserts
whole_with : (t s : Tree Node) (ps : Branch) (n : Bool) (root : ℕ) → IsClosedUnderAnd t ps → subtree_at (turned n t) root ≡ Some s
    → IsClosedUnderAnd t (ps ++ all_signed n (asserted s root))
whole_with t s ps n root whole at = λ m p q u has f j.
    let side = all_signed n (asserted s root) in
    contains_from_in (signed m q) (ps ++ side) (elim (in_either (signed m p) ps side (in_from_contains (signed m p) (ps ++ side) has)) [
      | inl h ↦ in_front (signed m q) ps side (in_from_contains (signed m q) ps (whole m p q u (contains_from_in (signed m p) ps h) f j))
      | inr h ↦ (let from = from_map (signed n) (signed m p) (asserted s root) h in
          let sign : n ≡ m = ap (λ (x : Signed). x.negated) from.2 in
          let place : from.0 ≡ p = ap (λ (x : Signed). x.position) from.2 in
          let here : subtree_at (turned n t) from.0 ≡ Some u = ap (λ b. subtree_at (turned b t) from.0) sign ∙ ap (subtree_at (turned m t)) place ∙ f in
          let A : ℕ → Type 0 = λ x. In q (asserted u x) in
          let below = side_whole (turned n t) s root at from.0 q u from.1 here (subst A (sym place) (in_from_contains q (asserted u p) j)) in
          let S : Bool → Type 0 = λ b. In (signed b q) side in
          in_back (signed m q) ps side (subst S sign (in_map (signed n) q (asserted s root) below)))
    ])

whole_at : (t : Tree Node) (ps : Branch) (n : Bool) (root : ℕ) → IsClosedUnderAnd t ps → IsClosedUnderAnd t (ps ++ positions_at t n root)
whole_at t ps n root whole = go (subtree_at (turned n t) root) refl
  where
    go : (o : Option (Tree Node)) → subtree_at (turned n t) root ≡ o → IsClosedUnderAnd t (ps ++ positions_of o n root)
    go None e = (let P : Branch → Type 0 = λ xs. IsClosedUnderAnd t xs in subst P (sym (append-nil ps)) whole)
    go (Some s) e = whole_with t s ps n root whole e

-- a part whose root is on the branch is on the branch
pub entered_again : (t : Tree Node) (facts : List PlainBranchFact) (ps : Branch) (n : Bool) (root : ℕ) → Contains facts (at_position (signed n root))
    → IsBranch t facts ps → IsBranch t facts (ps ++ positions_at t n root)
entered_again t facts ps n root fact (has, whole) =
    (has_again t facts ps (positions_at t n root) has (there (subtree_at (turned n t) root) refl), whole_at t ps n root whole)
  where
    on : Contains ps (signed n root)
    on = position_of_fact t facts ps has (signed n root) fact

    there : (o : Option (Tree Node)) → subtree_at (turned n t) root ≡ o → (q : Signed) → In q (positions_of o n root) → In q ps
    there None e q i = absurd i
    there (Some s) e q i =
        let from = from_map (signed n) q (asserted s root) i in
        let P : Signed → Type 0 = λ x. In x ps in
        subst P from.2 (in_from_contains (signed n from.0) ps (whole n root from.0 s on e (contains_from_in from.0 (asserted s root) from.1)))

-- a part that was walked
pub entered_all : (t : Tree Node) (facts new : List PlainBranchFact) (ps : Branch) (n : Bool) (root : ℕ) → HasAdded facts (facts_on t (positions_at t n root)) new
    → IsBranch t facts ps → IsBranch t new (ps ++ positions_at t n root)
entered_all t facts new ps n root add (has, whole) = (has_more t facts new ps (positions_at t n root) has add, whole_at t ps n root whole)

-- a part of one literal
pub entered_literal : (t : Tree Node) (n : Bool) (rows : List (Row Node)) (r : Row Node) (l : Literal Node) (facts new : List PlainBranchFact) (ps : Branch)
    (root : ℕ)
    → rows ≡ rows_of t → slice_get (turned_rows n rows) root ≡ Some r → r.kind ≡ Lit l → HasAdded facts (facts_of_literal l) new → IsBranch t facts ps
    → IsBranch t new (ps ++ positions_at t n root)
entered_literal t n rows r l facts new ps root flat here is add b =
    let P : List PlainBranchFact → Type 0 = λ ks. HasAdded facts ks new in
    entered_all t facts new ps n root (subst P (facts_of_one t n rows root r l flat here is) add) b

pub none_branch : (t : Tree Node) → IsBranch t [] []
none_branch t = (facts_none t, λ n p q s has f j. absurd (in_from_contains (signed n p) [] has))
