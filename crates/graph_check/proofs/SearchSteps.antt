-- What a search along edges keeps, step by step.
use Rattle.std.proofs.Common.{◌≡◌, ℕ, ◌+◌, ◌<◌, ◌⊎◌, inl, inr, List, [], ◌∷◌, ◌++◌, Some, length, set, take, replicate, get_or, slice_get, refl, sym, ◌∙◌, ap, subst, arith}
use Rattle.std.proofs.lemmas.Bool.{cases_eq, cases_lt}
use Rattle.std.proofs.lemmas.List.{map-append, get_or-set_same, get_or-set_other, length-set, length-append, length-replicate, get_or-replicate, get_or_past, take-append-le, take_all}
use Rattle.std.proofs.lemmas.{List.Sums.{sum_by_push, sum_by-set}, Option.{slice_get_within, slice_get_read, get_or_from_slice_get}}
use Rattle.pc_common.{specs.Chain.{Chain, Acyclic}, proofs.{Elements.{In, in_front, in_back, in_either}, Chains.{chain_join}, Places.{get_last, one_item}}}
use Rattle.graph_check.specs.{declared.search.{Mark.{Mark, TheVariants.{New, Open, Done}}, Visit.{Visit}}, Arcs.{Arcs, Joins, IsWalk, ComesTo}}
use Rattle.graph_check.specs.Searches.{Progress, with_visit, mark_of, nodes_of, IsPath, IsTopological, IsSearching, steps_of, steps_left, IsFurther}
use Rattle.graph_check.proofs.Links.{at_old, walk_done}

-- a mark that was written, and any other
mark_same : (ms : List Mark) (k : ℕ) (m : Mark) → k < length ms → mark_of (set ms k m) k ≡ m
mark_same ms k m low = get_or-set_same ms k m New low

mark_other : (ms : List Mark) (k b : ℕ) (m : Mark) → (b ≡ k → ⊥) → mark_of (set ms k m) b ≡ mark_of ms b
mark_other ms k b m other = get_or-set_other ms k b m New other

pub mark_read : (ms : List Mark) (k : ℕ) (m : Mark) → k < length ms → m ≡ get_or ms k m → mark_of ms k ≡ m
mark_read ms k m low is = get_or_from_slice_get ms k m New (slice_get_read ms (length ms) k m refl low is)

new_open : New ≡ Open → ⊥
new_open e = cc

new_done : New ≡ Done → ⊥
new_done e = cc

open_done : Open ≡ Done → ⊥
open_done e = cc

-- no node is new again where one gets another mark
pub further : (ms : List Mark) (k : ℕ) (m : Mark) → k < length ms → (m ≡ New → ⊥) → IsFurther ms (set ms k m)
further ms k m low other b was is = elim (cases_eq b k) [
  | inl same ↦ other (sym (mark_same ms k m low) ∙ ap (mark_of (set ms k m)) (sym same) ∙ is)
  | inr apart ↦ was (sym (mark_other ms k b m apart) ∙ is)
]

-- the first nodes are not new, and the next one is not
pub marked_next : (old new : List Mark) (k : ℕ) → IsFurther old new → ((b : ℕ) → b < k → mark_of old b ≡ New → ⊥) → (mark_of new k ≡ New → ⊥)
    → (b : ℕ) → b < k + 1 → mark_of new b ≡ New → ⊥
marked_next old new k goes_on before here b low is = elim (cases_eq b k) [
  | inl same ↦ here (ap (mark_of new) (sym same) ∙ is)
  | inr apart ↦ goes_on b (before b (omega (arith, low, apart))) is
]

-- the nodes of a path, and one more
nodes_more : (path : List Visit) (x : Visit) → nodes_of (path ++ x ∷ []) ≡ nodes_of path ++ x.node ∷ []
nodes_more path x = map-append (λ (y : Visit). y.node) path (x ∷ [])

last_of : {X : Type 0} (y : X) (xs : List X) (x : X) → In y (xs ++ x ∷ []) → In y xs ⊎ (x ≡ y)
last_of y xs x i = elim (in_either y xs (x ∷ []) i) [ inl j ↦ inl j | inr j ↦ elim j [ inl e ↦ inr e | inr k ↦ absurd k ] ]

module _ (v : Arcs) where
  led_front : (xs ys : List ℕ) → IsPath v (xs ++ ys) → IsPath v xs
  led_front [] ys l = tt
  led_front (x ∷ xs) ys l = ((λ y i. l.0 y (in_front y xs ys i)), led_front xs ys l.1)

  led_more : (xs : List ℕ) (y : ℕ) → IsPath v xs → ((x : ℕ) → In x xs → Chain (Joins v) x y) → IsPath v (xs ++ y ∷ [])
  led_more [] y l h = ((λ z i. absurd i), tt)
  led_more (x ∷ xs) y l h = (
    (λ z i. elim (last_of z xs y i) [
      | inl j ↦ l.0 z j
      | inr e ↦ (let P : ℕ → Type 0 = λ n. Chain (Joins v) x n in subst P e (h x (inl refl)))
    ]),
    led_more xs y l.1 (λ w i. h w (inr i)),
  )

  led_to : (xs : List ℕ) (y : ℕ) → IsPath v (xs ++ y ∷ []) → (x : ℕ) → In x xs → Chain (Joins v) x y
  led_to [] y l x i = absurd i
  led_to (z ∷ zs) y l x (inl e) = (let P : ℕ → Type 0 = λ n. Chain (Joins v) n y in subst P e (l.0 y (in_back y zs (y ∷ []) (inl refl))))
  led_to (z ∷ zs) y l x (inr i) = led_to zs y l.1 x i

  -- a new node is put last on the path
  pub opened : (p : Progress) (node at : ℕ) → IsSearching v p → node < length v.heads → mark_of p.marks node ≡ New
      → ((a : ℕ) → In a (nodes_of p.path) → Chain (Joins v) a node) → IsWalk v node at → ((b : ℕ) → Joins v node b → ComesTo v at b)
      → IsSearching v (record { marks = set p.marks node Open; path = p.path ++ record { node = node; at = at } ∷ []; order = p.order })
  opened p node at s node_in was_new led walk all = record {
    sized = length-set p.marks node Open ∙ s.sized;
    walks = λ y i. elim (last_of y p.path x i) [
      | inl old ↦ s.walks y old
      | inr e ↦ (let P : Visit → Type 0 = λ z. (z.node < length v.heads) × IsWalk v z.node z.at in subst P e (node_in, walk))
    ];
    passed = λ y b i joins. elim (last_of y p.path x i) [
      | inl old ↦ elim (s.passed y b old joins) [
        | inl ahead ↦ inl ahead
        | inr done ↦ inr (mark_other p.marks node b Open (λ e. new_done (sym was_new ∙ ap (mark_of p.marks) (sym e) ∙ done)) ∙ done)
      ]
      | inr e ↦ (let P : Visit → Type 0 = λ z. Joins v z.node b → ComesTo v z.at b in inl (subst P e (all b) joins))
    ];
    on_path = λ b is. (let P : List ℕ → Type 0 = λ ns. In b ns in subst P (sym (nodes_more p.path x)) (elim (cases_eq b node) [
      | inl same ↦ in_back b (nodes_of p.path) (node ∷ []) (inl (sym same))
      | inr other ↦ in_front b (nodes_of p.path) (node ∷ []) (s.on_path b (sym (mark_other p.marks node b Open other) ∙ is))
    ]));
    done = λ b is. elim (cases_eq b node) [
      | inl same ↦ absurd (open_done (sym (mark_same p.marks node Open low) ∙ ap (mark_of (set p.marks node Open)) (sym same) ∙ is))
      | inr other ↦ s.done b (sym (mark_other p.marks node b Open other) ∙ is)
    ];
    known = s.known;
    sorted = s.sorted;
    is_path = (let P : List ℕ → Type 0 = λ ns. IsPath v ns in subst P (sym (nodes_more p.path x)) (led_more (nodes_of p.path) node s.is_path led));
  }
    where
      x : Visit
      x = record { node = node; at = at }

      low : node < length p.marks
      low = (let same = s.sized in omega (arith, same, node_in))

  module _ (p : Progress) (x : Visit) (s : IsSearching v (with_visit p x)) where
    pub here : In x (p.path ++ x ∷ [])
    here = in_back x p.path (x ∷ []) (inl refl)

    node_in : x.node < length v.heads
    node_in = (s.walks x here).0

    pub visit_in : x.node < length p.marks
    visit_in = (let same = s.sized in let n = node_in in omega (arith, same, n))

    pub visit_walk : IsWalk v x.node x.at
    visit_walk = (s.walks x here).1

    led_here : IsPath v (nodes_of p.path ++ x.node ∷ [])
    led_here = (let P : List ℕ → Type 0 = λ ns. IsPath v ns in subst P (nodes_more p.path x) s.is_path)

    -- all nodes of the path lead to what an edge of the last one leads to
    pub leads_on : (to : ℕ) → Joins v x.node to → (a : ℕ) → In a (nodes_of (p.path ++ x ∷ [])) → Chain (Joins v) a to
    leads_on to joins a i =
        let P : List ℕ → Type 0 = λ ns. In a ns in
        let Q : ℕ → Type 0 = λ n. Chain (Joins v) n to in
        let step : Chain (Joins v) x.node to = ([], joins) in
        elim (last_of a (nodes_of p.path) x.node (subst P (nodes_more p.path x) i)) [
          | inl before ↦ chain_join (Joins v) a x.node to (led_to (nodes_of p.path) x.node led_here a before) step
          | inr e ↦ subst Q e step
        ]

    -- an edge back to the path closes a cycle
    pub circular : (to : ℕ) → Joins v x.node to → mark_of p.marks to ≡ Open → Acyclic (Joins v) → ⊥
    circular to joins is acyclic = acyclic to (leads_on to joins to (s.on_path to is))

    -- the next edge leads to a node that is done
    pub passed_by : (to next : ℕ) → IsWalk v x.node next → ((b : ℕ) → ComesTo v x.at b → (to ≡ b) ⊎ ComesTo v next b) → mark_of p.marks to ≡ Done
        → IsSearching v (with_visit p (record { node = x.node; at = next }))
    passed_by to next walk rest is = record {
      sized = s.sized;
      walks = λ z i. elim (last_of z p.path y i) [
        | inl old ↦ s.walks z (in_front z p.path (x ∷ []) old)
        | inr e ↦ (let P : Visit → Type 0 = λ w. (w.node < length v.heads) × IsWalk v w.node w.at in subst P e (node_in, walk))
      ];
      passed = λ z b i joins. elim (last_of z p.path y i) [
        | inl old ↦ s.passed z b (in_front z p.path (x ∷ []) old) joins
        | inr e ↦ (let P : Visit → Type 0 = λ w. Joins v w.node b → ComesTo v w.at b ⊎ (mark_of p.marks b ≡ Done) in subst P e (went b) joins)
      ];
      on_path = λ b was_open. (let P : List ℕ → Type 0 = λ ns. In b ns in subst P (nodes_more p.path x ∙ sym (nodes_more p.path y)) (s.on_path b was_open));
      done = s.done;
      known = s.known;
      sorted = s.sorted;
      is_path = (let P : List ℕ → Type 0 = λ ns. IsPath v ns in subst P (nodes_more p.path x ∙ sym (nodes_more p.path y)) s.is_path);
    }
      where
        y : Visit
        y = record { node = x.node; at = next }

        went : (b : ℕ) → Joins v x.node b → ComesTo v next b ⊎ (mark_of p.marks b ≡ Done)
        went b joins = elim (s.passed x b here joins) [
          | inl ahead ↦ elim (rest b ahead) [ inl e ↦ inr (ap (mark_of p.marks) (sym e) ∙ is) | inr later ↦ inl later ]
          | inr done ↦ inr done
        ]

    -- the last node is done: all its edges were followed
    pub finished : x.at ≡ 0 → IsSearching v (record { marks = set p.marks x.node Done; path = p.path; order = p.order ++ x.node ∷ [] })
    finished at_end = record {
      sized = length-set p.marks x.node Done ∙ s.sized;
      walks = λ y i. s.walks y (in_front y p.path (x ∷ []) i);
      passed = λ y b i joins. elim (s.passed y b (in_front y p.path (x ∷ []) i) joins) [
        | inl ahead ↦ inl ahead
        | inr done ↦ inr (stays b done)
      ];
      on_path = λ b is. elim (cases_eq b x.node) [
        | inl same ↦ absurd (open_done (sym is ∙ ap (mark_of (set p.marks x.node Done)) same ∙ mark_same p.marks x.node Done low))
        | inr other ↦
            let P : List ℕ → Type 0 = λ ns. In b ns in
            elim (last_of b (nodes_of p.path) x.node (subst P (nodes_more p.path x) (s.on_path b (sym (mark_other p.marks x.node b Done other) ∙ is)))) [
              | inl i ↦ i
              | inr e ↦ absurd (other (sym e))
            ]
      ];
      done = λ b is. elim (cases_eq b x.node) [
        | inl same ↦ in_back b p.order (x.node ∷ []) (inl (sym same))
        | inr other ↦ in_front b p.order (x.node ∷ []) (s.done b (sym (mark_other p.marks x.node b Done other) ∙ is))
      ];
      known = λ a i. elim (last_of a p.order x.node i) [
        | inl old ↦ s.known a old
        | inr e ↦ (let P : ℕ → Type 0 = λ n. n < length v.heads in subst P e node_in)
      ];
      sorted = λ k a b at joins. elim (cases_lt k (length p.order)) [
        | inl below ↦
            let P : List ℕ → Type 0 = λ ns. In b ns in
            subst P (sym (take-append-le k p.order (x.node ∷ []) (omega (arith, below)))) (s.sorted k a b (at_old p.order x.node k a below at) joins)
        | inr past ↦
            let within = slice_get_within (p.order ++ x.node ∷ []) k a at in
            let longer = length-append p.order (x.node ∷ []) in
            last_sorted k a b (omega (arith, within, longer, past)) at joins
      ];
      is_path = led_front (nodes_of p.path) (x.node ∷ []) led_here;
    }
      where
        low : x.node < length p.marks
        low = (let same = s.sized in let n = node_in in omega (arith, same, n))

        stays : (b : ℕ) → mark_of p.marks b ≡ Done → mark_of (set p.marks x.node Done) b ≡ Done
        stays b done = elim (cases_eq b x.node) [
          | inl same ↦ ap (mark_of (set p.marks x.node Done)) same ∙ mark_same p.marks x.node Done low
          | inr other ↦ mark_other p.marks x.node b Done other ∙ done
        ]

        behind : (b : ℕ) → Joins v x.node b → In b p.order
        behind b joins = elim (s.passed x b here joins) [
          | inl ahead ↦ absurd (walk_done v b (let P : ℕ → Type 0 = λ n. ComesTo v n b in subst P at_end ahead))
          | inr done ↦ s.done b done
        ]

        last_sorted : (k a b : ℕ) → k ≡ length p.order → slice_get (p.order ++ x.node ∷ []) k ≡ Some a → Joins v a b → In b (take k (p.order ++ x.node ∷ []))
        last_sorted k a b is at joins =
            let P : List ℕ → Type 0 = λ ns. In b ns in
            let Q : ℕ → Type 0 = λ n. Joins v n b in
            let same : a ≡ x.node = one_item a x.node (sym at ∙ ap (slice_get (p.order ++ x.node ∷ [])) is ∙ get_last p.order x.node) in
            let first : take k (p.order ++ x.node ∷ []) ≡ p.order = take-append-le k p.order (x.node ∷ []) (omega (arith, is))
            ∙ take_all k p.order (omega (arith, is)) in
            subst P (sym first) (behind b (subst Q same joins))

    pub fewer_passed : (next : ℕ) → next < x.at → steps_left v (with_visit p (record { node = x.node; at = next })) < steps_left v (with_visit p x)
    fewer_passed next falls =
        let old = sum_by_push (λ (y : Visit). y.at + 1) p.path x in
        let new = sum_by_push (λ (y : Visit). y.at + 1) p.path (record { node = x.node; at = next }) in
        omega (arith, old, new, falls)

    pub fewer_finished : (order : List ℕ)
        → steps_left v (record { marks = set p.marks x.node Done; path = p.path; order = order }) < steps_left v (with_visit p x)
    fewer_finished order =
        let same = s.sized in
        let n = node_in in
        let old = sum_by_push (λ (y : Visit). y.at + 1) p.path x in
        let marks = sum_by-set (steps_of (length v.arcs)) p.marks x.node Done New (omega (arith, same, n)) in
        omega (arith, old, marks)

-- a search that is at rest, with no new node left, put all nodes in order
pub in_order : (v : Arcs) (p : Progress) → IsSearching v p → p.path ≡ [] → ((b : ℕ) → b < length v.heads → mark_of p.marks b ≡ New → ⊥)
    → IsTopological v p.order
in_order v p s at_rest none_new = record {
  all = λ a low. by_mark a (mark_of p.marks a) refl (none_new a low);
  known = s.known;
  sorted = s.sorted;
}
  where
    by_mark : (a : ℕ) (m : Mark) → mark_of p.marks a ≡ m → (mark_of p.marks a ≡ New → ⊥) → In a p.order
    by_mark a New is old = absurd (old is)
    by_mark a Open is old = (let P : List Visit → Type 0 = λ path. In a (nodes_of path) in absurd (subst P at_rest (s.on_path a is)))
    by_mark a Done is old = s.done a is

-- a search that has not begun
pub clear : (v : Arcs) (marks : List Mark) → length marks ≡ length v.heads → ((b : ℕ) → mark_of marks b ≡ New)
    → IsSearching v (record { marks = marks; path = []; order = [] })
clear v marks sized new = record {
  sized = sized;
  walks = λ x i. absurd i;
  passed = λ x b i joins. absurd i;
  on_path = λ b is. absurd (new_open (sym (new b) ∙ is));
  done = λ b is. absurd (new_done (sym (new b) ∙ is));
  known = λ a i. absurd i;
  sorted = λ k a b at joins. absurd (none k a at);
  is_path = tt;
}
  where
    none : (k a : ℕ) → slice_get {X = ℕ} [] k ≡ Some a → ⊥
    none k a at = cc

pub begun : (v : Arcs) (marks : List Mark) (path : List Visit) (order : List ℕ) → marks ≡ replicate (length v.heads) New → path ≡ [] → order ≡ []
    → IsSearching v (record { marks = marks; path = path; order = order })
begun v marks path order all_new no_path no_order =
    rw (no_path, no_order) (clear v marks (ap length all_new ∙ length-replicate (length v.heads) New) (λ b. ap (λ ms. mark_of ms b) all_new ∙ is_new b))
  where
    is_new : (b : ℕ) → mark_of (replicate (length v.heads) New) b ≡ New
    is_new b = elim (cases_lt b (length v.heads)) [
      | inl below ↦ get_or-replicate (length v.heads) b New New below
      | inr past ↦ get_or_past all b New (let l : length all ≡ length v.heads = length-replicate (length v.heads) New in omega (arith, l, past))
    ]
      where
        all : List Mark
        all = replicate (length v.heads) New
