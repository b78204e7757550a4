-- What every open branch has: the root, positions of the tree alone, and with an And both of its children.
use Rattle.std.proofs.Common.{◌≡◌, inl, inr, ℕ, ◌+◌, Bool, false, not, List, [], ◌∷◌, ◌++◌, Some, refl, sym, ◌∙◌, subst}
use Rattle.pc_common.{specs.Steps.{Step, split, close}, proofs.Elements.{In, in_front, in_back, in_either, in_map, from_map}}
use Rattle.pc_ground.specs.{Tree.{Tree, always, both, negation, turned, size_of}, declared.version.Version.{Version}}
use Rattle.pc_ground.specs.declared.version.Version.TheVariants.{One, Two}
use Rattle.pc_ground.specs.Refutes.{Signed, signed, all_signed, Branch, subtree_at, part_at, asserted, with_side, left_branch, right_branch, Runs, IsPartial}
use Rattle.pc_ground.proofs.{FlatRows.{children_both, children_either}, Turned.{subtree_denied}, StageWalks.{some_same}}

-- an And at the position has both its parts on the branch
abbrev pub HasParts : {N : Type 0} → Branch → Signed → Tree N → Type 0
HasParts ps q (both a b) = In (signed q.negated (q.position + 1)) ps × In (signed q.negated (q.position + 1 + size_of a)) ps
HasParts ps q s = Unit {0}

-- the position is one of the tree, with the parts of an And
abbrev pub IsPlaced : {N : Type 0} → Tree N → Branch → Signed → Type 0
IsPlaced {N} t ps q = (s : Tree N) × (part_at t q ≡ Some s) × HasParts ps q s

pub record IsGrown {N : Type 0} (t : Tree N) (ps : Branch) : Type 0 where
  pub root : In (signed false 0) ps
  pub placed : (q : Signed) → In q ps → IsPlaced t ps q

pub both_parts : {N : Type 0} (t : Tree N) (ps : Branch) (q : Signed) (a b : Tree N) → IsGrown t ps → In q ps → part_at t q ≡ Some (both a b)
    → HasParts ps q (both a b)
both_parts {N} t ps q a b g i e = (let there = g.placed q i in let P : Tree N → Type 0 = HasParts ps q in subst P (some_same (sym there.1 ∙ e)) there.2)

pub asserted_root : {N : Type 0} (s : Tree N) (p : ℕ) → In p (asserted s p)
asserted_root always p = inl refl
asserted_root s p = inl refl

placed_alone : {N : Type 0} (t : Tree N) (n : Bool) (s : Tree N) (p : ℕ) (ps : Branch) (q : ℕ) → subtree_at (turned n t) p ≡ Some s
    → HasParts ps (signed n p) s → In q (p ∷ []) → IsPlaced t ps (signed n q)
placed_alone t n s p ps q at parts (inl e) = (let P : ℕ → Type 0 = λ m. IsPlaced t ps (signed n m) in subst P e (s, at, parts))
placed_alone t n s p ps q at parts (inr i) = absurd i

-- each position that a side asserts
asserted_placed : {N : Type 0} (t : Tree N) (n : Bool) (s : Tree N) (p : ℕ) (ps : Branch) → subtree_at (turned n t) p ≡ Some s
    → ((m : ℕ) → In m (asserted s p) → In (signed n m) ps) → (q : ℕ) → In q (asserted s p) → IsPlaced t ps (signed n q)
asserted_placed t n (both c d) p ps at within q (inl e) =
    let left = asserted c (p + 1) in
    let right = asserted d (p + 1 + size_of c) in
    let here = within (p + 1) (inr (in_front (p + 1) left right (asserted_root c (p + 1)))) in
    let there = within (p + 1 + size_of c) (inr (in_back (p + 1 + size_of c) left right (asserted_root d (p + 1 + size_of c)))) in
    placed_alone t n (both c d) p ps q at (here, there) (inl e)
asserted_placed t n (both c d) p ps at within q (inr i) =
    let left = asserted c (p + 1) in
    let right = asserted d (p + 1 + size_of c) in
    let children = children_both (turned n t) p c d at in
    elim (in_either q left right i) [
      | inl h ↦ asserted_placed t n c (p + 1) ps children.0 (λ m k. within m (inr (in_front m left right k))) q h
      | inr h ↦ asserted_placed t n d (p + 1 + size_of c) ps children.1 (λ m k. within m (inr (in_back m left right k))) q h
    ]
asserted_placed t n s p ps at within q i = placed_alone t n s p ps q at tt i

side_placed : {N : Type 0} (t : Tree N) (n : Bool) (s : Tree N) (p : ℕ) (ps : Branch) → subtree_at (turned n t) p ≡ Some s
    → ((r : Signed) → In r (all_signed n (asserted s p)) → In r ps) → (q : Signed) → In q (all_signed n (asserted s p)) → IsPlaced t ps q
side_placed t n s p ps at within q i =
    let from = from_map (signed n) q (asserted s p) i in
    rw (← from.2) (asserted_placed t n s p ps at (λ m k. within (signed n m) (in_map (signed n) m (asserted s p) k)) from.0 from.1)

pub grown_root : {N : Type 0} (t : Tree N) → IsGrown t (all_signed false (asserted t 0))
grown_root t = record {
  root = in_map (signed false) 0 (asserted t 0) (asserted_root t 0);
  placed = λ q i. side_placed t false t 0 (all_signed false (asserted t 0)) refl (λ r k. k) q i;
}

more_parts : {N : Type 0} (ps side : Branch) (q : Signed) (s : Tree N) → HasParts ps q s → HasParts (ps ++ side) q s
more_parts ps side q (both a b) h =
    (in_front (signed q.negated (q.position + 1)) ps side h.0, in_front (signed q.negated (q.position + 1 + size_of a)) ps side h.1)
more_parts ps side q s h = tt

pub grown_side : {N : Type 0} (t : Tree N) (ps : Branch) (n : Bool) (s : Tree N) (p : ℕ) → IsGrown t ps → subtree_at (turned n t) p ≡ Some s
    → IsGrown t (with_side ps n s p)
grown_side t ps n s p g at =
    let side = all_signed n (asserted s p) in record {
      root = in_front (signed false 0) ps side g.root;
      placed = λ q i. elim (in_either q ps side i) [
        | inl h ↦ (let there = g.placed q h in (there.0, there.1, more_parts ps side q there.0 there.2))
        | inr h ↦ side_placed t n s p (ps ++ side) at (λ r k. in_back r ps side k) q h
      ];
    }

grown_right : {N : Type 0} (v : Version) (t : Tree N) (ps : Branch) (n : Bool) (p : ℕ) (a b : Tree N) → IsGrown t ps
    → subtree_at (turned n t) (p + 1) ≡ Some a → subtree_at (turned n t) (p + 1 + size_of a) ≡ Some b → IsGrown t (right_branch v ps n p a b)
grown_right One t ps n p a b g left right = grown_side t ps n b (p + 1 + size_of a) g right
grown_right Two t ps n p a b g left right =
    grown_side t (with_side ps (not n) (negation a) (p + 1)) n b (p + 1 + size_of a)
    (grown_side t ps (not n) (negation a) (p + 1) g (subtree_denied t n (p + 1) a left)) right

AllGrown : {N : Type 0} → Tree N → List Branch → Type 0
AllGrown t [] = Unit {0}
AllGrown t (ps ∷ opens) = IsGrown t ps × AllGrown t opens

grown_run : {N : Type 0} (v : Version) (t : Tree N) (ss : List (Step N)) (opens rest : List Branch) → Runs v t ss opens rest
    → AllGrown t opens → AllGrown t rest
unfolding AllGrown
grown_run {N} v t [] opens rest e g = let P : List Branch → Type 0 = AllGrown t in subst P e g
grown_run v t (s ∷ ss) [] rest e g = absurd e
grown_run v t (split n p ∷ ss) (ps ∷ opens) rest e g =
    let a = e.0 in
    let b = e.1 in
    let children = children_either (turned n t) p a b e.2.1 in
    grown_run v t ss (left_branch ps n p a ∷ right_branch v ps n p a b ∷ opens) rest e.3
    (grown_side t ps n a (p + 1) g.0 children.0, (grown_right v t ps n p a b g.0 children.0 children.1, g.1))
grown_run v t (close l ∷ ss) (ps ∷ opens) rest e g = grown_run v t ss opens rest e.1 g.1

-- the first open branch of a partial refutation
pub grown_first : {N : Type 0} (v : Version) (t : Tree N) (ss : List (Step N)) (ps : Branch) (opens : List Branch)
    → IsPartial v t ss (ps ∷ opens) → IsGrown t ps
unfolding AllGrown
grown_first v t ss ps opens run = (grown_run v t ss (all_signed false (asserted t 0) ∷ []) (ps ∷ opens) run (grown_root t, tt)).0
