-- Linked lists of edges, a literal more at a time.
use Rattle.std.proofs.Common.{◌≡◌, ℕ, ◌+◌, ◌<◌, ◌≤◌, ◌⊎◌, inl, inr, List, [], ◌∷◌, ◌++◌, length, get_or, set, refl, sym, ◌∙◌, ap, subst, arith, get_or-set_same, get_or-set_other}
use Rattle.std.proofs.lemmas.{Bool.{cases_lt}, List.{get_or_past, length-set, length_push, get_or_at, get_or_append_left}}
use Rattle.std.proofs.lemmas.Option.{get_or_from_slice_get, slice_get-get_or}
use Rattle.order_graph.{proofs.Decide.{same_or_not}, specs.{Ways.{IsBelow}, Levels.{OnList, here, later, AreLists, HasListed}}}
use Rattle.pc_ground.specs.declared.literal.Literal.{Literal, TheVariants.{Node, Edge, NoNode, NoEdge}}

-- an edge stays on its list where links are put after the others
stays : (links : List ℕ) (more e k : ℕ) → ((j : ℕ) → get_or links j 0 ≤ j) → e ≤ length links → OnList links e k → OnList (links ++ more ∷ []) e k
stays links more e k falling low (here m) = here m
stays links more e k falling low (later d m rest) =
    let same : get_or (links ++ more ∷ []) d 0 ≡ get_or links d 0 = get_or_append_left links (more ∷ []) 0 d (omega arith) in
    let P : ℕ → Type 0 = λ x. OnList (links ++ more ∷ []) x m in
    later d m (subst P (sym same) (stays links more (get_or links d 0) m falling (let f = falling d in omega arith) rest))

edge_more : (ls : List (Literal ℕ)) (nodes k : ℕ) (heads links : List ℕ) (p q : ℕ) → AreLists ls nodes k heads links
    → ((d : Literal ℕ) → get_or ls k d ≡ Edge p q) → q < nodes
    → AreLists ls nodes (k + 1) (set heads q (k + 1)) (links ++ get_or heads q 0 ∷ [])
edge_more ls nodes k heads links p q l at inside =
    let size = l.heads_all in let links_size = l.links_all in
    let before : ℕ = get_or heads q 0 in
    let now : List ℕ = set heads q (k + 1) in
    let all_links : List ℕ = links ++ before ∷ [] in
    let head_new : get_or now q 0 ≡ k + 1 = get_or-set_same heads q (k + 1) 0 (omega arith) in
    let last : get_or all_links k 0 ≡ before = get_or_at links before [] 0 k l.links_all in
    record {
      heads_all = length-set heads q (k + 1) ∙ l.heads_all;
      links_all = length_push links before ∙ ap (λ n. n + 1) l.links_all;
      low = λ b. elim (same_or_not b q) [
        | inl same ↦ (let f = ap (λ x. get_or now x 0) same in omega arith)
        | inr other ↦ (let f = get_or-set_other heads q b (k + 1) 0 other in let g = l.low b in omega arith)
      ];
      falling = λ j. elim (same_or_not j k) [
        | inl same ↦ (let f = ap (λ x. get_or all_links x 0) same in let g = l.low q in omega arith)
        | inr other ↦ elim (cases_lt j k) [
          | inl below ↦ (let f = get_or_append_left links (before ∷ []) 0 j (omega arith) in let g = l.falling j in omega arith)
          | inr past ↦ (let f = get_or_past all_links j 0 (let s = length_push links before in omega arith) in omega arith)
        ]
      ];
      all = λ j a b h is. elim (same_or_not j k) [
        | inl same ↦
            let edge : Edge p q ≡ Edge a b = sym (at (Edge a b)) ∙ ap (λ x. get_or ls x (Edge a b)) (sym same) ∙ is in
            let end : b ≡ q = cc in
            let head_is : get_or now b 0 ≡ k + 1 = ap (λ x. get_or now x 0) end ∙ head_new in
            let P : ℕ → Type 0 = λ x. OnList all_links x j in
            let Q : ℕ → Type 0 = λ x. OnList all_links (k + 1) x in
            subst P (sym head_is) (subst Q (sym same) (here k))
        | inr other ↦
            let old = stays links before (get_or heads b 0) j l.falling (let g = l.low b in omega arith) (l.all j a b (omega arith) is) in
            elim (same_or_not b q) [
              | inl same ↦
                  let head_is : get_or now b 0 ≡ k + 1 = ap (λ x. get_or now x 0) same ∙ head_new in
                  let link_is : get_or all_links k 0 ≡ get_or heads b 0 = last ∙ ap (λ x. get_or heads x 0) (sym same) in
                  let P : ℕ → Type 0 = λ x. OnList all_links x j in
                  subst P (sym head_is) (later k j (subst P (sym link_is) old))
              | inr apart ↦
                  let P : ℕ → Type 0 = λ x. OnList all_links x j in
                  subst P (sym (get_or-set_other heads q b (k + 1) 0 apart)) old
            ]
      ];
    }

other_more : (ls : List (Literal ℕ)) (nodes k : ℕ) (heads links : List ℕ) → AreLists ls nodes k heads links
    → ((a b : ℕ) → get_or ls k (Edge a b) ≡ Edge a b → ⊥) → AreLists ls nodes (k + 1) heads (links ++ 0 ∷ [])
other_more ls nodes k heads links l other =
    let links_size = l.links_all in
    let all_links : List ℕ = links ++ 0 ∷ [] in
    let last : get_or all_links k 0 ≡ 0 = get_or_at links 0 [] 0 k l.links_all in
    record {
      heads_all = l.heads_all;
      links_all = length_push links 0 ∙ ap (λ n. n + 1) l.links_all;
      low = λ b. (let g = l.low b in omega arith);
      falling = λ j. elim (same_or_not j k) [
        | inl same ↦ (let f = ap (λ x. get_or all_links x 0) same in omega arith)
        | inr apart ↦ elim (cases_lt j k) [
          | inl below ↦ (let f = get_or_append_left links (0 ∷ []) 0 j (omega arith) in let g = l.falling j in omega arith)
          | inr past ↦ (let f = get_or_past all_links j 0 (let s = length_push links 0 in omega arith) in omega arith)
        ]
      ];
      all = λ j a b h is. elim (same_or_not j k) [
        | inl same ↦ absurd (other a b (ap (λ x. get_or ls x (Edge a b)) (sym same) ∙ is))
        | inr apart ↦ stays links 0 (get_or heads b 0) j l.falling (let g = l.low b in omega arith) (l.all j a b (omega arith) is)
      ];
    }

pub lists_more : (ls : List (Literal ℕ)) (nodes k : ℕ) (heads links now link_now : List ℕ) (l : Literal ℕ) → AreLists ls nodes k heads links
    → ((d : Literal ℕ) → get_or ls k d ≡ l) → IsBelow nodes l → HasListed l heads links now link_now
    → AreLists ls nodes (k + 1) now link_now
lists_more ls nodes k heads links now link_now (Edge p q) a at inside (is, link_is) =
    let size : length links + 1 ≡ k + 1 = ap (λ n. n + 1) a.links_all in
    rw (is, link_is, size) (edge_more ls nodes k heads links p q a at inside.1)
lists_more ls nodes k heads links now link_now (Node p) a at inside (is, link_is) =
    rw (is, link_is) (other_more ls nodes k heads links a (λ b c there. (let e : Node p ≡ Edge b c = sym (at (Edge b c)) ∙ there in cc)))
lists_more ls nodes k heads links now link_now (NoNode p) a at inside (is, link_is) =
    rw (is, link_is) (other_more ls nodes k heads links a (λ b c there. (let e : NoNode p ≡ Edge b c = sym (at (Edge b c)) ∙ there in cc)))
lists_more ls nodes k heads links now link_now (NoEdge p q) a at inside (is, link_is) =
    rw (is, link_is) (other_more ls nodes k heads links a (λ b c there. (let e : NoEdge p q ≡ Edge b c = sym (at (Edge b c)) ∙ there in cc)))

-- an edge on a list is its first, or is on what follows
pub on_cases : (links : List ℕ) (at k : ℕ) → OnList links (at + 1) k → (k ≡ at) ⊎ OnList links (get_or links at 0) k
on_cases links at k on = cases (at + 1) k on refl
  where
    cases : (e k : ℕ) → OnList links e k → e ≡ at + 1 → (k ≡ at) ⊎ OnList links (get_or links at 0) k
    cases e k (here m) is = inl (omega arith)
    cases e k (later d m rest) is =
        let same : d ≡ at = omega arith in
        let P : ℕ → Type 0 = λ x. OnList links (get_or links x 0) m in
        inr (subst P same rest)

-- no edge is on the empty list
pub on_none : (links : List ℕ) (k : ℕ) → OnList links 0 k → ⊥
on_none links k on = cases 0 k on refl
  where
    cases : (e k : ℕ) → OnList links e k → e ≡ 0 → ⊥
    cases e k (here m) is = absurd (omega arith)
    cases e k (later d m rest) is = absurd (omega arith)

-- an element that is there doesn't depend on the default
pub same_read : {X : Type 0} (xs : List X) (k : ℕ) (d f : X) → k < length xs → get_or xs k d ≡ get_or xs k f
same_read xs k d f h = get_or_from_slice_get xs k (get_or xs k f) d (slice_get-get_or xs k f h)
