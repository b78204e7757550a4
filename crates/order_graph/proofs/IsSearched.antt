-- The search backwards, an edge at a time.
use Rattle.std.proofs.Common.{◌≡◌, ◌≢◌, ℕ, ◌+◌, ◌<◌, ◌≤◌, ◌⊎◌, inl, inr, List, [], ◌∷◌, ◌++◌, length, get_or, set, replicate, refl, sym, ◌∙◌, ap, subst, arith, get_or-set_same, get_or-set_other}
use Rattle.std.proofs.lemmas.{Bool.{cases_lt, ne_eqb}, List.{get_or-replicate, length-replicate, length-set, length_push, get_or_at, get_or_append_left}}
use Rattle.std.proofs.lemmas.List.{Sums.{sum_by-set}, Folds.{sum_by-replicate}, Elements.{Contains-append_left, Contains-push, All-contains}}
use Rattle.std.specs.Prelude.{Contains, All}
use Rattle.order_graph.{proofs.{Decide.{same_or_not}, OnList.{same_read, on_cases, on_none}, EdgeWays.{IsClosed}}, specs.Ways.{IsBelow}}
use Rattle.order_graph.specs.Levels.{far, far_count, one_if_far, OnList, HasRaised, fresh, nearer, known, found, HasFollowed, IsSearched}
use Rattle.pc_ground.specs.declared.literal.Literal.{Literal, TheVariants.{Node, Edge, NoNode, NoEdge}}

one_if_near : (d : ℕ) → d ≢ far → one_if_far d ≡ 0
one_if_near d h = rw (ne_eqb d far h) refl

-- what one edge leaves and brings
pub record IsStep (ls : List (Literal ℕ)) (target nodes h from : ℕ) (levels queue now next_now queue_now : List ℕ) : Type 0 where
  pub searched : IsSearched ls target nodes h now next_now queue_now
  pub stays : (a : ℕ) → get_or levels a 0 ≢ far → get_or now a 0 ≡ get_or levels a 0
  pub near : get_or now from 0 ≢ far
  pub longer : length queue ≤ length queue_now
  pub first : (j : ℕ) → j < length queue → get_or queue_now j 0 ≡ get_or queue j 0

fresh_step : (ls : List (Literal ℕ)) (target nodes h : ℕ) (levels nexts queue : List ℕ) (from to : ℕ)
    → IsSearched ls target nodes h levels nexts queue → nodes + 2 < far → from < nodes → to < nodes → get_or levels to 0 ≢ far
    → Contains ls (Edge from to) → get_or levels from 0 ≡ far
    → IsStep ls target nodes h from levels queue (set levels from (get_or levels to 0 + 1)) (set nexts from to) (queue ++ from ∷ [])
fresh_step ls target nodes h levels nexts queue from to s few from_in to_in near has was =
    let now : List ℕ = set levels from (get_or levels to 0 + 1) in
    let next_now : List ℕ = set nexts from to in
    let queue_now : List ℕ = queue ++ from ∷ [] in
    let size = s.levels_all in
    let next_size = s.nexts_all in
    let counted = s.count in
    let low = s.low in
    let longer : length queue_now ≡ length queue + 1 = length_push queue from in
    let to_low = s.bounded to to_in near in
    let here : get_or now from 0 ≡ get_or levels to 0 + 1 = get_or-set_same levels from (get_or levels to 0 + 1) 0 (omega arith) in
    let next_here : get_or next_now from 0 ≡ to = get_or-set_same nexts from to 0 (omega arith) in
    let there : (a : ℕ) → a ≢ from → get_or now a 0 ≡ get_or levels a 0 = λ a n. get_or-set_other levels from a (get_or levels to 0 + 1) 0 n in
    let next_there : (a : ℕ) → a ≢ from → get_or next_now a 0 ≡ get_or nexts a 0 = λ a n. get_or-set_other nexts from a to 0 n in
    let apart : (a : ℕ) → get_or levels a 0 ≢ far → a ≢ from = λ a n e. n (ap (λ x. get_or levels x 0) e ∙ was) in
    let stays : (a : ℕ) → get_or levels a 0 ≢ far → get_or now a 0 ≡ get_or levels a 0 = λ a n. there a (apart a n) in
    let grew : (a : ℕ) → get_or now a 0 ≢ far → (a ≡ from) ⊎ (get_or levels a 0 ≢ far) = λ a n.
    elim (same_or_not a from) [ inl same ↦ inl same | inr other ↦ inr (λ f. n (there a other ∙ f)) ] in
    let now_size : length now ≡ nodes = length-set levels from (get_or levels to 0 + 1) ∙ s.levels_all in
    record {
      searched = record {
        levels_all = now_size;
        nexts_all = length-set nexts from to ∙ s.nexts_all;
        home = stays target (λ f. (let z = s.home in absurd (omega arith))) ∙ s.home;
        next = λ a inside n. elim (grew a n) [
          | inl same ↦
              let next_is : get_or next_now a 0 ≡ to = ap (λ x. get_or next_now x 0) same ∙ next_here in
              let level : get_or now (get_or next_now a 0) 0 ≡ get_or levels to 0 = ap (λ x. get_or now x 0) next_is ∙ stays to near in
              let own : get_or now a 0 ≡ get_or levels to 0 + 1 = ap (λ x. get_or now x 0) same ∙ here in
              inr (omega arith, omega arith)
          | inr old ↦
              let own = stays a old in
              let next_is = next_there a (apart a old) in
              let own_low = s.bounded a (omega arith) old in
              elim (s.next a (omega arith) old) [
                | inl home ↦ inl (own ∙ home.0, home.1)
                | inr step ↦
                    let level_is = step.1 in
                    let in_range = step.0 in
                    let next_near : get_or levels (get_or nexts a 0) 0 ≢ far = (λ f. absurd (omega arith)) in
                    let level : get_or now (get_or next_now a 0) 0 ≡ get_or levels (get_or nexts a 0) 0 = ap (λ x. get_or now x 0) next_is
                    ∙ stays (get_or nexts a 0) next_near in
                    inr (omega arith, omega arith)
              ]
        ];
        steps = λ a b n. elim (grew a n.1) [
          | inl same ↦
              let end : to ≡ b = sym (ap (λ x. get_or next_now x 0) same ∙ next_here) ∙ n.3 in
              let P : ℕ → Type 0 = λ x. Contains ls (Edge x b) in
              let Q : ℕ → Type 0 = λ y. Contains ls (Edge from y) in
              subst P (sym same) (subst Q end has)
          | inr old ↦
              let inside = n.0 in
              s.steps a b (omega arith, old, (λ z. n.2 (stays a old ∙ z)), sym (next_there a (apart a old)) ∙ n.3)
        ];
        bounded = λ a inside n. elim (grew a n) [
          | inl same ↦ (let own = ap (λ x. get_or now x 0) same in omega arith)
          | inr old ↦ (let own = stays a old in let before = s.bounded a inside old in omega arith)
        ];
        queued = λ a inside n. elim (grew a n) [
          | inl same ↦ (let P : ℕ → Type 0 = Contains queue_now in subst P (sym same) (Contains-push queue from))
          | inr old ↦ Contains-append_left queue (from ∷ []) a (s.queued a inside old)
        ];
        reached = λ j inside. elim (cases_lt j (length queue)) [
          | inl below ↦
              let q : get_or queue_now j 0 ≡ get_or queue j 0 = get_or_append_left queue (from ∷ []) 0 j below in
              let r = s.reached j below in
              let r_in = r.0 in
              (omega arith, (λ f. r.1 (sym (stays (get_or queue j 0) r.1) ∙ ap (λ x. get_or now x 0) (sym q) ∙ f)))
          | inr past ↦
              let last : j ≡ length queue = omega arith in
              let q : get_or queue_now j 0 ≡ from = ap (λ x. get_or queue_now x 0) last ∙ get_or_at queue from [] 0 (length queue) refl in
              let own = ap (λ x. get_or now x 0) q in
              (omega arith, (λ f. absurd (omega arith)))
        ];
        count =
            (let sums = sum_by-set one_if_far levels from (get_or levels to 0 + 1) 0 (omega arith) in
            let one : one_if_far (get_or levels from 0) ≡ 1 = ap one_if_far was in
            let none : one_if_far (get_or levels to 0 + 1) ≡ 0 = one_if_near (get_or levels to 0 + 1) (omega arith) in
            omega arith);
        low = omega arith;
        closed = λ j a below is.
            let q : get_or queue_now j 0 ≡ get_or queue j 0 = get_or_append_left queue (from ∷ []) 0 j (omega arith) in
            let P : ℕ → Type 0 = λ x. Contains ls (Edge a x) in
            let old = s.closed j a below (subst P q is) in
            (λ f. old (sym (stays a old) ∙ f));
      };
      stays = stays;
      near = (λ f. absurd (omega arith));
      longer = omega arith;
      first = λ j below. get_or_append_left queue (from ∷ []) 0 j below;
    }

nearer_step : (ls : List (Literal ℕ)) (target nodes h : ℕ) (levels nexts queue : List ℕ) (from to : ℕ)
    → IsSearched ls target nodes h levels nexts queue → nodes + 2 < far → from < nodes → to < nodes → get_or levels to 0 ≢ far
    → Contains ls (Edge from to) → get_or levels from 0 ≡ get_or levels to 0 + 1
    → IsStep ls target nodes h from levels queue levels (set nexts from to) queue
nearer_step ls target nodes h levels nexts queue from to s few from_in to_in near has level =
    let next_now : List ℕ = set nexts from to in
    let size = s.levels_all in
    let next_size = s.nexts_all in
    let counted = s.count in
    let low = s.low in
    let to_low = s.bounded to to_in near in
    let next_here : get_or next_now from 0 ≡ to = get_or-set_same nexts from to 0 (omega arith) in
    let next_there : (a : ℕ) → a ≢ from → get_or next_now a 0 ≡ get_or nexts a 0 = λ a n. get_or-set_other nexts from a to 0 n in
    record {
      searched = record {
        levels_all = s.levels_all;
        nexts_all = length-set nexts from to ∙ s.nexts_all;
        home = s.home;
        next = λ a inside n. elim (same_or_not a from) [
          | inl same ↦
              let next_is : get_or next_now a 0 ≡ to = ap (λ x. get_or next_now x 0) same ∙ next_here in
              let next_level = ap (λ x. get_or levels x 0) next_is in
              let own = ap (λ x. get_or levels x 0) same in
              inr (omega arith, omega arith)
          | inr other ↦
              let next_is = next_there a other in
              let next_level = ap (λ x. get_or levels x 0) next_is in
              elim (s.next a inside n) [ inl home ↦ inl home | inr step ↦ (let in_range = step.0 in let level_is = step.1 in inr (omega arith, omega arith)) ]
        ];
        steps = λ a b n. elim (same_or_not a from) [
          | inl same ↦
              let end : to ≡ b = sym (ap (λ x. get_or next_now x 0) same ∙ next_here) ∙ n.3 in
              let P : ℕ → Type 0 = λ x. Contains ls (Edge x b) in
              let Q : ℕ → Type 0 = λ y. Contains ls (Edge from y) in
              subst P (sym same) (subst Q end has)
          | inr other ↦ s.steps a b (n.0, n.1, n.2, sym (next_there a other) ∙ n.3)
        ];
        bounded = s.bounded;
        queued = s.queued;
        reached = s.reached;
        count = s.count;
        low = s.low;
        closed = s.closed;
      };
      stays = λ a n. refl;
      near = (λ f. absurd (omega arith));
      longer = omega arith;
      first = λ j below. refl;
    }

pub raised_step : (ls : List (Literal ℕ)) (target nodes h : ℕ) (levels nexts queue : List ℕ) (from to : ℕ) (now next_now queue_now : List ℕ)
    → IsSearched ls target nodes h levels nexts queue → nodes + 2 < far → from < nodes → to < nodes → get_or levels to 0 ≢ far
    → Contains ls (Edge from to) → HasRaised (found levels nexts queue) from to (found now next_now queue_now)
    → IsStep ls target nodes h from levels queue now next_now queue_now
raised_step ls target nodes h levels nexts queue from to now next_now queue_now s few from_in to_in near has (fresh was is next_is queue_is) =
    rw (is, next_is, queue_is) (fresh_step ls target nodes h levels nexts queue from to s few from_in to_in near has was)
raised_step ls target nodes h levels nexts queue from to now next_now queue_now s few from_in to_in near has (nearer level is next_is queue_is) =
    rw (is, next_is, queue_is) (nearer_step ls target nodes h levels nexts queue from to s few from_in to_in near has level)
raised_step ls target nodes h levels nexts queue from to now next_now queue_now s few from_in to_in near has (known there is next_is queue_is) =
    rw (is, next_is, queue_is) record { searched = s; stays = λ a n. refl; near = there; longer = omega arith; first = λ j below. refl }

-- the edges into the node were followed but for those on the list from `at` on
pub record IsVisiting (ls : List (Literal ℕ)) (links : List ℕ) (target nodes done node at : ℕ) (levels nexts queue : List ℕ) : Type 0 where
  pub searched : IsSearched ls target nodes done levels nexts queue
  pub inside : done < length queue
  pub node_is : get_or queue done 0 ≡ node
  pub at_in : at ≤ length ls
  pub rest : (k a : ℕ) → k < length ls → get_or ls k (Edge a node) ≡ Edge a node → OnList links at k ⊎ (get_or levels a 0 ≢ far)

-- the node has a level below far, and is a node
pub visited : (ls : List (Literal ℕ)) (links : List ℕ) (target nodes done node at : ℕ) (levels nexts queue : List ℕ)
    → IsVisiting ls links target nodes done node at levels nexts queue → nodes + 2 < far
    → (node < nodes) × (get_or levels node 0 ≢ far) × (get_or levels node 0 + 1 < far)
visited ls links target nodes done node at levels nexts queue v few =
    let r = v.searched.reached done v.inside in
    let node_is = v.node_is in
    let r_in = r.0 in
    let node_in : node < nodes = omega arith in
    let near : get_or levels node 0 ≢ far = (λ f. r.1 (ap (λ x. get_or levels x 0) v.node_is ∙ f)) in
    let low = v.searched.bounded node node_in near in
    let counted = v.searched.count in
    (node_in, near, omega arith)

-- the two edges are one
ends_are : (a b c d : ℕ) → Edge a b ≡ Edge c d → (a ≡ c) × (b ≡ d)
ends_are a b c d e = (cc, cc)

-- a literal that asserts no edge to the node is passed over
passed_over : (ls : List (Literal ℕ)) (links : List ℕ) (target nodes done node at : ℕ) (levels nexts queue : List ℕ)
    → IsVisiting ls links target nodes done node (at + 1) levels nexts queue → ((j : ℕ) → get_or links j 0 ≤ j)
    → ((a : ℕ) → get_or ls at (Edge a node) ≡ Edge a node → ⊥)
    → IsVisiting ls links target nodes done node (get_or links at 0) levels nexts queue
passed_over ls links target nodes done node at levels nexts queue v falling other =
    let at_in = v.at_in in
    record {
      searched = v.searched;
      inside = v.inside;
      node_is = v.node_is;
      at_in = (let f = falling at in omega arith);
      rest = λ k a inside there. elim (v.rest k a inside there) [
        | inl on ↦ elim (on_cases links at k on) [
          | inl here ↦ absurd (other a (ap (λ x. get_or ls x (Edge a node)) (sym here) ∙ there))
          | inr later_on ↦ inl later_on
        ]
        | inr done_before ↦ inr done_before
      ];
    }

-- an edge to the node is followed
followed : (ls : List (Literal ℕ)) (links : List ℕ) (target nodes done node at : ℕ) (levels nexts queue now next_now queue_now : List ℕ) (p : ℕ)
    → IsVisiting ls links target nodes done node (at + 1) levels nexts queue → nodes + 2 < far → All (IsBelow nodes) ls
    → ((j : ℕ) → get_or links j 0 ≤ j) → ((d : Literal ℕ) → get_or ls at d ≡ Edge p node)
    → HasRaised (found levels nexts queue) p node (found now next_now queue_now)
    → IsVisiting ls links target nodes done node (get_or links at 0) now next_now queue_now
followed ls links target nodes done node at levels nexts queue now next_now queue_now p v few all falling read raised =
    let at_in = v.at_in in
    let known_node = visited ls links target nodes done node (at + 1) levels nexts queue v few in
    let has : Contains ls (Edge p node) = (at, omega arith, read (Edge p node)) in
    let from_in = (All-contains (IsBelow nodes) ls (Edge p node) all has).0 in
    let step = raised_step ls target nodes done levels nexts queue p node now next_now queue_now v.searched few from_in known_node.0 known_node.1 has raised in
    record {
      searched = step.searched;
      inside = (let a = v.inside in let b = step.longer in omega arith);
      node_is = step.first done v.inside ∙ v.node_is;
      at_in = (let f = falling at in omega arith);
      rest = λ k a inside is. elim (v.rest k a inside is) [
        | inl on ↦ elim (on_cases links at k on) [
          | inl here ↦
              let start : a ≡ p = (ends_are a node p node (sym is ∙ ap (λ x. get_or ls x (Edge a node)) here ∙ read (Edge a node))).0 in
              inr (λ f. step.near (ap (λ x. get_or now x 0) (sym start) ∙ f))
          | inr later_on ↦ inl later_on
        ]
        | inr done_before ↦ inr (λ f. done_before (sym (step.stays a done_before) ∙ f))
      ];
    }

pub visiting_more : (ls : List (Literal ℕ)) (links : List ℕ) (target nodes done node at : ℕ) (levels nexts queue now next_now queue_now : List ℕ)
    (l : Literal ℕ)
    → IsVisiting ls links target nodes done node (at + 1) levels nexts queue → nodes + 2 < far → All (IsBelow nodes) ls
    → ((j : ℕ) → get_or links j 0 ≤ j) → ((d : Literal ℕ) → get_or ls at d ≡ l)
    → HasFollowed l node (found levels nexts queue) (found now next_now queue_now)
    → IsVisiting ls links target nodes done node (get_or links at 0) now next_now queue_now
visiting_more ls links target nodes done node at levels nexts queue now next_now queue_now (Edge p q) v few all falling read (inl (to_is, raised)) =
    followed ls links target nodes done node at levels nexts queue now next_now queue_now p v few all falling (λ d. read d ∙ ap (λ x. Edge p x) to_is) raised
visiting_more ls links target nodes done node at levels nexts queue now next_now queue_now (Edge p q) v few all falling read
    (inr (other, (is, next_is, queue_is))) =
    rw (is, next_is, queue_is)
    (passed_over ls links target nodes done node at levels nexts queue v falling (λ a there. other (ends_are p q a node (sym (read (Edge a node)) ∙ there)).1))
visiting_more ls links target nodes done node at levels nexts queue now next_now queue_now (Node p) v few all falling read (is, next_is, queue_is) =
    rw (is, next_is, queue_is)
    (passed_over ls links target nodes done node at levels nexts queue v falling
    (λ a there. (let e : Node p ≡ Edge a node = sym (read (Edge a node)) ∙ there in cc)))
visiting_more ls links target nodes done node at levels nexts queue now next_now queue_now (NoNode p) v few all falling read (is, next_is, queue_is) =
    rw (is, next_is, queue_is)
    (passed_over ls links target nodes done node at levels nexts queue v falling
    (λ a there. (let e : NoNode p ≡ Edge a node = sym (read (Edge a node)) ∙ there in cc)))
visiting_more ls links target nodes done node at levels nexts queue now next_now queue_now (NoEdge p q) v few all falling read (is, next_is, queue_is) =
    rw (is, next_is, queue_is)
    (passed_over ls links target nodes done node at levels nexts queue v falling
    (λ a there. (let e : NoEdge p q ≡ Edge a node = sym (read (Edge a node)) ∙ there in cc)))

pub visiting_done : (ls : List (Literal ℕ)) (links : List ℕ) (target nodes done node at : ℕ) (levels nexts queue : List ℕ)
    → IsVisiting ls links target nodes done node at levels nexts queue → at ≡ 0 → IsSearched ls target nodes (done + 1) levels nexts queue
visiting_done ls links target nodes done node at levels nexts queue v ended =
    let s = v.searched in
    record {
      levels_all = s.levels_all;
      nexts_all = s.nexts_all;
      home = s.home;
      next = s.next;
      steps = s.steps;
      bounded = s.bounded;
      queued = s.queued;
      reached = s.reached;
      count = s.count;
      low = (let h = v.inside in omega arith);
      closed = λ j a below has. elim (same_or_not j done) [
        | inl here ↦
            let end : get_or queue j 0 ≡ node = ap (λ x. get_or queue x 0) here ∙ v.node_is in
            let P : ℕ → Type 0 = λ x. Contains ls (Edge a x) in
            let is = subst P end has in
            elim (v.rest is.0 a is.1 is.2) [
              | inl on ↦ (let Q : ℕ → Type 0 = λ x. OnList links x is.0 in absurd (on_none links is.0 (subst Q ended on)))
              | inr near ↦ near
            ]
        | inr before ↦ s.closed j a (omega arith) has
      ];
    }

far_all : (n : ℕ) → far_count (replicate n far) ≡ n
far_all n = sum_by-replicate one_if_far n far ∙ (let one : one_if_far far ≡ 1 = refl in omega arith)

pub searched_first : (ls : List (Literal ℕ)) (target nodes : ℕ) (levels nexts : List ℕ) → target < nodes → length nexts ≡ nodes
    → levels ≡ set (replicate nodes far) target 0 → IsSearched ls target nodes 0 levels nexts (target ∷ [])
searched_first ls target nodes levels nexts inside next_size is =
    let clear : List ℕ = replicate nodes far in
    let size : length clear ≡ nodes = length-replicate nodes far in
    let home : get_or levels target 0 ≡ 0 = ap (λ x. get_or x target 0) is ∙ get_or-set_same clear target 0 0 (omega arith) in
    let size_is : length levels ≡ nodes = ap length is ∙ length-set clear target 0 ∙ size in
    let only : (a : ℕ) → a < nodes → get_or levels a 0 ≢ far → a ≡ target = λ a a_in n. elim (same_or_not a target) [
      | inl same ↦ same
      | inr other ↦ absurd (n (ap (λ x. get_or x a 0) is ∙ get_or-set_other clear target a 0 0 other ∙ get_or-replicate nodes a far 0 a_in))
    ] in
    record {
      levels_all = size_is;
      nexts_all = next_size;
      home = home;
      next = λ a a_in n. (let same = only a (omega arith) n in inl (ap (λ x. get_or levels x 0) same ∙ home, same));
      steps = λ a b n. (let a_in = n.0 in let same = only a (omega arith) n.1 in absurd (n.2 (ap (λ x. get_or levels x 0) same ∙ home)));
      bounded = λ a a_in n. (let own = ap (λ x. get_or levels x 0) (only a a_in n) in omega arith);
      queued = λ a a_in n. (0, omega arith, sym (only a a_in n));
      reached = λ j below.
          let first : j ≡ 0 = omega arith in
          let q : get_or (target ∷ []) j 0 ≡ target = ap (λ x. get_or (target ∷ []) x 0) first in
          let own = ap (λ x. get_or levels x 0) q in
          (omega arith, (λ f. absurd (omega arith)));
      count =
          (let sums = sum_by-set one_if_far clear target 0 0 (omega arith) in
          let one : one_if_far (get_or clear target 0) ≡ 1 = ap one_if_far (get_or-replicate nodes target far 0 inside) in
          let all : far_count clear ≡ nodes = far_all nodes in
          let now : far_count levels ≡ far_count (set clear target 0) = ap far_count is in
          omega arith);
      low = omega arith;
      closed = λ j a below has. absurd (omega arith);
    }

-- all in the queue were visited
pub searched_all : (ls : List (Literal ℕ)) (target nodes : ℕ) (levels nexts queue : List ℕ) → All (IsBelow nodes) ls
    → IsSearched ls target nodes (length queue) levels nexts queue → IsClosed ls levels
searched_all ls target nodes levels nexts queue all s a b has near =
    let b_in = (All-contains (IsBelow nodes) ls (Edge a b) all has).1 in
    let at = s.queued b b_in near in
    let P : ℕ → Type 0 = λ x. Contains ls (Edge a x) in
    let q : get_or queue at.0 0 ≡ b = same_read queue at.0 0 b at.1 ∙ at.2 in
    s.closed at.0 a at.1 (subst P (sym q) has)

-- a node in the queue is a node with a level
pub queued_node : (ls : List (Literal ℕ)) (target nodes h : ℕ) (levels nexts queue : List ℕ) (node : ℕ)
    → IsSearched ls target nodes h levels nexts queue → h < length queue → node ≡ get_or queue h 0 → (node < nodes) × (get_or levels node 0 ≢ far)
queued_node ls target nodes h levels nexts queue node s inside is =
    let P : ℕ → Type 0 = λ x. (x < nodes) × (get_or levels x 0 ≢ far) in
    subst P (sym is) (s.reached h inside)

-- a node no further away than one in the queue has a level
pub stops_near : (ls : List (Literal ℕ)) (target nodes h : ℕ) (levels nexts queue : List ℕ) (node from : ℕ)
    → IsSearched ls target nodes h levels nexts queue → nodes + 2 < far → h < length queue → node ≡ get_or queue h 0
    → get_or levels from 0 ≤ get_or levels node 0 → get_or levels from 0 ≢ far
stops_near ls target nodes h levels nexts queue node from s few inside is near =
    let (node_in, node_near) = queued_node ls target nodes h levels nexts queue node s inside is in
    let low = s.bounded node node_in node_near in
    let counted = s.count in
    (λ f. absurd (omega arith))
