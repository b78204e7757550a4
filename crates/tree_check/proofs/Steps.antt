-- What a step makes of the open branches.
use Rattle.std.proofs.Common.{◌≡◌, ◌≤◌, ℕ, zero, suc, ◌+◌, Bool, true, false, not, List, [], ◌∷◌, ◌++◌, Some, length, take, reverse, refl, sym, ◌∙◌, ap, subst, arith}
use Rattle.std.{proofs.lemmas.List.{reverse-append}, specs.Prelude.{Result, Ok, Err, OnOk}}
use Rattle.pc_common.specs.{World.{Node}, Steps.{Leaf, split, close}}
use Rattle.pc_ground.specs.{declared.{row.Row.{Row}, version.Version.{Version, TheVariants.{One, Two}}}, Tree.{Tree, negation, turned, size_of}, Rows.{rows_of}}
use Rattle.pc_ground.specs.Refutes.{all_signed, Branch, subtree_at, asserted, literals_of, Closes, IsSplit, left_branch, right_branch, Runs}
use Rattle.pc_ground.proofs.{FlatRows.{children_either}, Turned.{subtree_denied}}
use Rattle.refutation.specs.BranchFacts.{PlainBranchFact}
use Rattle.tree_check.specs.{Facts.{HasFacts}, Sides.{positions_of, positions_at, with_all, left_side, right_side}}
use Rattle.tree_check.specs.{OpenBranches.{OpenBranches, open_branches, IsBranch, IsLater, AreLater, AreOpen, AreSides, Stands}, declared.later.Later.{Later}}

-- a checker that has an open branch
pub stands_open : (o : OpenBranches) (version : Version) (rows : List (Row Node)) (facts : List PlainBranchFact) (later : List Later) (is_open : Bool)
    → open_branches version rows facts later is_open ≡ o → is_open ≡ true → (v : Version) (t : Tree Node) (opens : List Branch) → Stands o v t opens
    → (version ≡ v) × (rows ≡ rows_of t) × AreOpen t true facts (reverse later) opens
stands_open o version rows facts later is_open view is v t opens st =
    let P : OpenBranches → Type 0 = λ x. Stands x v t opens in
    let Q : Bool → Type 0 = λ b. AreOpen t b facts (reverse later) opens in
    let old : Stands (open_branches version rows facts later is_open) v t opens = subst P (sym view) st in
    (old.version, old.rows, subst Q is old.are_open)

-- a first part of a first part
take_less : {X : Type 0} (n : ℕ) (xs ys : List X) → n ≤ length xs → take (length xs) ys ≡ xs → take n ys ≡ take n xs
take_less zero xs ys within e = refl
take_less (suc n) [] ys within e = absurd (omega (arith, within))
take_less (suc n) (x ∷ xs) [] within e = cc
take_less (suc n) (x ∷ xs) (y ∷ ys) within e =
    let first : y ≡ x = cc in
    let rest : take (length xs) ys ≡ xs = cc in
    ap (λ z. z ∷ take n ys) first ∙ ap (λ zs. x ∷ zs) (take_less n xs ys (omega (arith, within)) rest)

shorter : {X : Type 0} (xs ys : List X) → take (length xs) ys ≡ xs → length xs ≤ length ys
shorter [] ys e = omega arith
shorter (x ∷ xs) [] e = cc
shorter (x ∷ xs) (y ∷ ys) e = (let rest : take (length xs) ys ≡ xs = cc in omega (arith, shorter xs ys rest))

-- the branches that wait are the same, with more facts on the first one
later_more : (t : Tree Node) (facts new : List PlainBranchFact) (ls : List Later) (opens : List Branch) → take (length facts) new ≡ facts
    → AreLater t facts ls opens → AreLater t new ls opens
later_more t facts new [] [] first h = h
later_more t facts new [] (qs ∷ opens) first h = h
later_more t facts new (l ∷ ls) [] first h = h
later_more t facts new (l ∷ ls) (qs ∷ opens) first (one, rest) =
    let same : take l.facts facts ≡ take l.facts new = sym (take_less l.facts facts new one.within first) in
    let P : List PlainBranchFact → Type 0 = λ ks. IsBranch t ks one.before in
    let Q : List PlainBranchFact → Type 0 = λ ks. AreLater t ks ls opens in (
      record {
        before = one.before;
        within = omega (arith, one.within, shorter facts new first);
        first = subst P same one.first;
        all = one.all;
      },
      subst Q same rest,
    )

-- what the left side and the right side add
part_positions : (t : Tree Node) (n : Bool) (root : ℕ) (s : Tree Node) → subtree_at (turned n t) root ≡ Some s
    → all_signed n (asserted s root) ≡ positions_at t n root
part_positions t n root s at = ap (λ o. positions_of o n root) (sym at)

left_all : (t : Tree Node) (ps : Branch) (n : Bool) (p left : ℕ) (a : Tree Node) → left ≡ p + 1 → subtree_at (turned n t) (p + 1) ≡ Some a
    → with_all t ps (left_side n left) ≡ left_branch ps n p a
left_all t ps n p left a is at =
    ap (λ m. ps ++ positions_at t n m) is ∙ ap (λ xs. ps ++ xs) (sym (part_positions t n (p + 1) a at))

right_all : (v : Version) (t : Tree Node) (ps : Branch) (n : Bool) (p left right : ℕ) (a b : Tree Node) → left ≡ p + 1 → right ≡ p + 1 + size_of a
    → subtree_at (turned n t) (p + 1) ≡ Some a → subtree_at (turned n t) (p + 1 + size_of a) ≡ Some b
    → right_branch v ps n p a b ≡ with_all t ps (right_side v n left right)
right_all One t ps n p left right a b is_left is_right at below =
    ap (λ xs. ps ++ xs) (part_positions t n (p + 1 + size_of a) b below) ∙ ap (λ m. ps ++ positions_at t n m) (sym is_right)
right_all Two t ps n p left right a b is_left is_right at below =
    let here = p + 1 + size_of a in
    let denied = part_positions t (not n) (p + 1) (negation a) (subtree_denied t n (p + 1) a at) ∙ ap (positions_at t (not n)) (sym is_left) in
    let added = part_positions t n here b below ∙ ap (positions_at t n) (sym is_right) in
    ap (λ xs. (ps ++ xs) ++ all_signed n (asserted b here)) denied ∙ ap (λ ys. (ps ++ positions_at t (not n) left) ++ ys) added

-- no Or is asserted there, so nothing is split
pub no_split : (v : Version) (t : Tree Node) (n : Bool) (p : ℕ) (facts : List PlainBranchFact) (ls : List Later) (opens : List Branch) → AreOpen t true facts ls opens
    → ((ps : Branch) → HasFacts t facts ps → (a b : Tree Node) → IsSplit t ps n p a b → ⊥) → (next : List Branch) → Runs v t (split n p ∷ []) opens next → ⊥
no_split v t n p facts ls [] op none next run = run
no_split v t n p facts ls (ps ∷ opens) op none next run = none ps op.0.0 run.0 run.1 run.2

pub did_split : (v : Version) (t : Tree Node) (n : Bool) (p left right : ℕ) (facts new : List PlainBranchFact) (later : List Later) (opens : List Branch)
    → AreOpen t true facts (reverse later) opens → ((ps : Branch) → HasFacts t facts ps → AreSides t ps n p left right) → take (length facts) new ≡ facts
    → ((ps : Branch) → IsBranch t facts ps → IsBranch t new (with_all t ps (left_side n left)))
    → (next : List Branch) × Runs v t (split n p ∷ []) opens next
    × AreOpen t true new (reverse (later ++ record { facts = length facts; side = right_side v n left right } ∷ [])) next
did_split v t n p left right facts new later [] op sides first entered = absurd op
did_split v t n p left right facts new later (ps ∷ opens) op sides first entered =
    let found = sides ps op.0.0 in
    let a = found.first in
    let b = found.second in
    let below = children_either (turned n t) p a b found.is_split.1 in
    let l : Later = record { facts = length facts; side = right_side v n left right } in
    let here = left_branch ps n p a in
    let there = right_branch v ps n p a b in
    let B : List PlainBranchFact → Type 0 = λ ks. IsBranch t ks ps in
    let L : List PlainBranchFact → Type 0 = λ ks. AreLater t ks (reverse later) opens in
    let O : List Later → Type 0 = λ ls. AreOpen t true new ls (here ∷ there ∷ opens) in
    let H : Branch → Type 0 = λ qs. IsBranch t new qs in
    let waits : IsLater t new l there = record {
      before = ps;
      within = shorter facts new first;
      first = subst B (sym first) op.0;
      all = right_all v t ps n p left right a b found.at_left found.at_right below.0 below.1;
    } in (
      here ∷ there ∷ opens,
      (a, b, found.is_split, refl),
      subst O (sym (reverse-append later (l ∷ [])))
          (subst H (left_all t ps n p left a found.at_left below.0) (entered ps op.0), (waits, subst L (sym first) op.1)),
    )

pub no_close : (v : Version) (t : Tree Node) (leaf : Leaf Node) (facts : List PlainBranchFact) (ls : List Later) (opens : List Branch) → AreOpen t true facts ls opens
    → ((ps : Branch) → HasFacts t facts ps → Closes t (literals_of t ps) leaf → ⊥) → (next : List Branch) → Runs v t (close leaf ∷ []) opens next → ⊥
no_close v t leaf facts ls [] op none next run = op
no_close v t leaf facts ls (ps ∷ opens) op none next run = none ps op.0.0 run.0

pub did_close : (v : Version) (t : Tree Node) (leaf : Leaf Node) (facts : List PlainBranchFact) (ls : List Later) (opens : List Branch) (old new : OpenBranches)
    → Stands old v t opens → AreOpen t true facts ls opens → ((ps : Branch) → HasFacts t facts ps → Closes t (literals_of t ps) leaf)
    → ((ps : Branch) (rest : List Branch) → Stands old v t (ps ∷ rest) → Stands new v t rest)
    → (next : List Branch) × Runs v t (close leaf ∷ []) opens next × Stands new v t next
did_close v t leaf facts ls [] old new st op closes rest = absurd op
did_close v t leaf facts ls (ps ∷ opens) old new st op closes rest = (opens, (closes ps op.0.0, refl), rest ps opens st)

-- the next branch that waits, once its side is entered
pub did_open : (is_open : Bool) (t : Tree Node) (facts cut new : List PlainBranchFact) (later rest : List Later) (l : Later) (ps : Branch) (opens : List Branch)
    → AreOpen t is_open facts (reverse later) (ps ∷ opens) → later ≡ rest ++ l ∷ [] → cut ≡ take l.facts facts → take (length cut) new ≡ cut
    → ((qs : Branch) → IsBranch t cut qs → IsBranch t new (with_all t qs l.side)) → AreOpen t is_open new (reverse rest) opens
did_open false t facts cut new later rest l ps opens op e same first entered = cc
did_open true t facts cut new later rest l ps opens op e same first entered =
    let P : List Later → Type 0 = λ ls. AreLater t facts ls opens in
    go opens (subst P (ap reverse e ∙ reverse-append rest (l ∷ [])) op.1)
  where
    go : (opens : List Branch) → AreLater t facts (l ∷ reverse rest) opens → AreOpen t true new (reverse rest) opens
    go [] h = h
    go (qs ∷ more) (one, others) =
        let B : List PlainBranchFact → Type 0 = λ ks. IsBranch t ks one.before in
        let C : Branch → Type 0 = λ x. IsBranch t new x in
        let D : List PlainBranchFact → Type 0 = λ ks. AreLater t ks (reverse rest) more in (
          subst C (sym one.all) (entered one.before (subst B (sym same) one.first)),
          later_more t cut new (reverse rest) more first (subst D (sym same) others),
        )

-- a checker that has an open branch, by its parts
pub stands_by : (version : Version) (rows : List (Row Node)) (facts : List PlainBranchFact) (later : List Later) (is_open : Bool) → is_open ≡ true
    → (v : Version) (t : Tree Node) (opens : List Branch) → version ≡ v → rows ≡ rows_of t → AreOpen t true facts (reverse later) opens
    → Stands (open_branches version rows facts later is_open) v t opens
stands_by version rows facts later is_open is v t opens same flat op =
    let Q : Bool → Type 0 = λ b. AreOpen t b facts (reverse later) opens in record { version = same; rows = flat; are_open = subst Q (sym is) op }

-- what two clauses say of a call that went well
pub on_ok_both : {T E P Q R : Type 0} (r : Result T E) → (P → Q → R) → OnOk r P → OnOk r Q → OnOk r R
on_ok_both (Ok x) f p q = f p q
on_ok_both (Err e) f p q = p
