-- The numbers of the edges that lead along node keys, one by one.
use Rattle.std.proofs.Common.{◌≡◌, ◌≤◌, ℕ, zero, suc, ◌+◌, ◌-◌, List, [], ◌∷◌, ◌++◌, Some, length, get_or, map, take, drop, refl, sym, ◌∙◌, ap, subst, arith, append_assoc}
use Rattle.std.{proofs.lemmas.List.{map-append, take_all, drop_all}, specs.Prelude.{slice_get}}
use Rattle.pc_common.{specs.World.{Node}, proofs.Elements.{In}}
use Rattle.pc_ground.specs.{Keys.{key_node}, declared.node_key.NodeKey.{NodeKey}}
use Rattle.static_preds.proofs.Walked.{drop_at}
use Rattle.refutation.specs.BranchFacts.{edge, no_edge}
use Rattle.lifter.specs.KnownFacts.{Entry, entry, HasKey, AreEdges, AreNumbers, IsCycleKnown, IsPathKnown}

-- the nodes after the first one
abbrev pub along : List NodeKey → NodeKey → List Node
along via to = map key_node via ++ key_node to ∷ []

module _ (es : List Entry) (to : NodeKey) (via : List NodeKey) where
  -- the next edge, and those after it
  pub next_edges : (at : NodeKey) (k : ℕ) (x : NodeKey) → slice_get via k ≡ Some x → AreEdges es (key_node at) (along (drop k via) to)
      → HasKey es (edge (key_node at) (key_node x)) × AreEdges es (key_node x) (along (drop (k + 1) via) to)
  next_edges at k x there h = (let P : List NodeKey → Type 0 = λ ys. AreEdges es (key_node at) (along ys to) in subst P (drop_at via k (k + 1) x there refl) h)

  -- the last edge
  pub last_edge : (at : NodeKey) (k : ℕ) → length via ≤ k → AreEdges es (key_node at) (along (drop k via) to) → HasKey es (edge (key_node at) (key_node to))
  last_edge at k past h = (let P : List NodeKey → Type 0 = λ ys. AreEdges es (key_node at) (along ys to) in let last = subst P (drop_all k via past)
      h in last.0)

  module _ (from : NodeKey) where
    -- with these numbers in front of those of the edges from a place on, all have theirs
    abbrev pub HaveSoFar : List ℕ → NodeKey → ℕ → Type 0
    HaveSoFar old at k = (ks : List ℕ) → AreNumbers es (key_node at) (along (drop k via) to) ks → AreNumbers es (key_node from) (along via to) (old ++ ks)

    pub next_numbers : (at : NodeKey) (k n : ℕ) (x : NodeKey) (old new : List ℕ) → slice_get via k ≡ Some x → In (entry (edge (key_node at) (key_node x)) n) es
        → new ≡ old ++ n ∷ [] → HaveSoFar old at k → HaveSoFar new x (k + 1)
    next_numbers at k n x old new there here is h ks rest =
        let P : List NodeKey → Type 0 = λ ys. AreNumbers es (key_node at) (along ys to) (n ∷ ks) in
        let Q : List ℕ → Type 0 = λ ns. AreNumbers es (key_node from) (along via to) ns in
        subst Q (sym (append_assoc old (n ∷ []) ks) ∙ ap (λ (ns : List ℕ). ns ++ ks) (sym is))
        (h (n ∷ ks) (subst P (sym (drop_at via k (k + 1) x there refl)) (here, rest)))

    pub all_numbers : (at : NodeKey) (k n : ℕ) (old new : List ℕ) → length via ≤ k → In (entry (edge (key_node at) (key_node to)) n) es → new ≡ old ++ n ∷ []
        → HaveSoFar old at k → AreNumbers es (key_node from) (along via to) new
    all_numbers at k n old new past here is h =
        let P : List NodeKey → Type 0 = λ ys. AreNumbers es (key_node at) (along ys to) (n ∷ []) in
        let Q : List ℕ → Type 0 = λ ns. AreNumbers es (key_node from) (along via to) ns in
        subst Q (sym is) (h (n ∷ []) (subst P (sym (drop_all k via past)) (here, tt)))

pub cycle_edges : (es : List Entry) (nodes via : List NodeKey) (from : NodeKey) → nodes ≡ from ∷ via → IsCycleKnown es (map key_node nodes)
    → AreEdges es (key_node from) (along via from)
cycle_edges es nodes via from e h = (let P : List NodeKey → Type 0 = λ ks. IsCycleKnown es (map key_node ks) in subst P e h)

same_last : {X : Type 0} (xs ys : List X) (x y : X) → xs ++ x ∷ [] ≡ ys ++ y ∷ [] → x ≡ y
same_last [] [] x y e = cc
same_last [] (b ∷ []) x y e = cc
same_last [] (b ∷ d ∷ ys) x y e = cc
same_last (a ∷ []) [] x y e = cc
same_last (a ∷ d ∷ xs) [] x y e = cc
same_last (a ∷ xs) (b ∷ ys) x y e = (let tails : xs ++ x ∷ [] ≡ ys ++ y ∷ [] = cc in same_last xs ys x y tails)

pub path_edges : (es : List Entry) (nodes via : List NodeKey) (from to : NodeKey) → nodes ≡ from ∷ (via ++ to ∷ []) → IsPathKnown es (map key_node nodes)
    → AreEdges es (key_node from) (along via to) × HasKey es (no_edge (key_node from) (key_node to))
path_edges es nodes via from to e h =
    let all : h.first ∷ (h.via ++ h.last ∷ []) ≡ key_node from ∷ along via to =
    sym h.all ∙ ap (map key_node) e ∙ ap (λ (ns : List Node). key_node from ∷ ns) (map-append key_node via (to ∷ [])) in
    let first : h.first ≡ key_node from = cc in
    let tails : h.via ++ h.last ∷ [] ≡ along via to = cc in
    let last = same_last h.via (map key_node via) h.last (key_node to) tails in
    let P : Node → Type 0 = λ a. AreEdges es a (h.via ++ h.last ∷ []) in
    let Q : List Node → Type 0 = λ ns. AreEdges es (key_node from) ns in
    let F : Node → Type 0 = λ a. HasKey es (no_edge a h.last) in
    let L : Node → Type 0 = λ a. HasKey es (no_edge (key_node from) a) in
    (subst Q tails (subst P first h.edges), subst L last (subst F first h.denied))

-- a list by its first item and the others
pub first_rest : {X : Type 0} (xs : List X) (x : X) → 1 ≤ length xs → x ≡ get_or xs 0 x → xs ≡ x ∷ take (length xs - 1) (drop 1 xs)
first_rest [] x some is = absurd (omega (arith, some))
first_rest (y ∷ ys) x some is = ap (λ z. z ∷ ys) (sym is) ∙ ap (λ zs. x ∷ zs) (sym (take_all (length (y ∷ ys) - 1) ys (omega arith)))

last_of : {X : Type 0} (ys : List X) (n : ℕ) (y : X) → length ys ≡ suc n → y ≡ get_or ys n y → ys ≡ take n ys ++ y ∷ []
last_of [] n y e is = absurd (omega (arith, e))
last_of (x ∷ []) zero y e is = ap (λ z. z ∷ []) (sym is)
last_of (x ∷ []) (suc n) y e is = absurd (omega (arith, e))
last_of (x ∷ z ∷ zs) zero y e is = absurd (omega (arith, e))
last_of (x ∷ z ∷ zs) (suc n) y e is = ap (λ r. x ∷ r) (last_of (z ∷ zs) n y (omega (arith, e)) is)

-- by its first item, its last one and those between them
pub first_last : {X : Type 0} (xs : List X) (x y : X) → 2 ≤ length xs → x ≡ get_or xs 0 x → y ≡ get_or xs (length xs - 1) y
    → xs ≡ x ∷ (take (length xs - 1 - 1) (drop 1 xs) ++ y ∷ [])
first_last [] x y some a b = absurd (omega (arith, some))
first_last (z ∷ []) x y some a b = absurd (omega (arith, some))
first_last (z ∷ w ∷ ws) x y some a b =
    let one : length (z ∷ w ∷ ws) - 1 ≡ suc (length ws) = omega arith in
    let two : length (z ∷ w ∷ ws) - 1 - 1 ≡ length ws = omega arith in
    let last = last_of (w ∷ ws) (length ws) y refl (b ∙ ap (λ n. get_or (z ∷ w ∷ ws) n y) one) in
    ap (λ u. u ∷ w ∷ ws) (sym a) ∙ ap (λ r. x ∷ r) (last ∙ ap (λ n. take n (w ∷ ws) ++ y ∷ []) (sym two))

module _ (es : List Entry) (from to : NodeKey) (via rest : List NodeKey) (next : NodeKey) (e : via ≡ next ∷ rest) where
  -- the first edge of some, and its number
  pub first_edge : AreEdges es (key_node from) (along via to) → HasKey es (edge (key_node from) (key_node next)) × AreEdges es (key_node next) (along rest to)
  first_edge h = (let P : List NodeKey → Type 0 = λ ys. AreEdges es (key_node from) (along ys to) in subst P e h)

  pub first_number : (n : ℕ) (ks : List ℕ) → In (entry (edge (key_node from) (key_node next)) n) es → AreNumbers es (key_node next) (along rest to) ks
      → AreNumbers es (key_node from) (along via to) (n ∷ ks)
  first_number n ks here more = (let P : List NodeKey → Type 0 = λ ys. AreNumbers es (key_node from) (along ys to) (n ∷ ks) in subst P (sym e) (here, more))

-- the one edge where no node stands between
pub one_number : (es : List Entry) (from to : NodeKey) (via : List NodeKey) (n : ℕ) (ks : List ℕ) → length via ≤ 0
    → In (entry (edge (key_node from) (key_node to)) n) es → ks ≡ []
    → AreNumbers es (key_node from) (along via to) (n ∷ ks)
one_number es from to [] n ks none here is =
    (let P : List ℕ → Type 0 = λ ms. AreNumbers es (key_node from) (along [] to) (n ∷ ms) in subst P (sym is) (here, tt))
one_number es from to (v ∷ vs) n ks none here is = absurd (omega (arith, none))

-- a cycle has a node, and a path two
pub no_cycle : (es : List Entry) (nodes : List NodeKey) → length nodes ≤ 0 → IsCycleKnown es (map key_node nodes) → ⊥
no_cycle es [] none h = h
no_cycle es (n ∷ ns) none h = absurd (omega (arith, none))
