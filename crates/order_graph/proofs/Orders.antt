-- The parts of an order graph: at first, with one literal more, with a mark more, and cut.
use Rattle.std.proofs.Common.{◌≡◌, ℕ, zero, suc, ◌+◌, ◌-◌, ◌*◌, ◌<◌, ◌≤◌, inl, inr, Bool, true, false, List, [], ◌∷◌, ◌++◌, length, take, get_or, set, replicate, refl, sym, ◌∙◌, ap, subst, arith, take-take, suc-mul}
use Rattle.std.proofs.lemmas.Bool.{cases_eq, both_ways}
use Rattle.std.proofs.lemmas.List.{take_all, take_at, take-append-le, get_or_at, get_or_append_left, get_or-take, length_push, length-take-le, take_more_set}
use Rattle.std.{proofs.lemmas.List.Elements.{All-nil}, specs.Prelude.{Contains, MatchOption, Option, Some, None}}
use Rattle.pc_common.specs.{Chain.{Leads, Chain}, declared.limits.TheConstants.{MAX_NODES}}
use Rattle.pc_ground.specs.declared.literal.Literal.{Literal, TheVariants.{Node, Edge, NoNode, NoEdge}}
use Rattle.pc_ground.specs.Literals.{Joins, IsPresent, IsConsistent, as_node, as_start, as_end}
use Rattle.undo_trail.{specs.{Bits.{has}, BitTable.{BitTable, tables, Extends}}, proofs.{ExtendsLaws.{table_last, table_kept}, BitWords.{has-clear}}}
use Rattle.order_graph.specs.{Ways.{IsBelow}, declared.clash.Clash.{Clash}, Clashes.{IsClash}, State.{words_for, most_words, IsPushed}}
use Rattle.order_graph.specs.{Rows.{pair_row, present_row, missing_row, Represents, Enters, IsSized}, Marks.{marks_from}, Order.{IsOrder}}
use Rattle.order_graph.proofs.{Represents.{represents_more}, MarkLists.{marks_none, IsCutAt}}

nothing : (x : Literal ℕ) → Contains [] x → ⊥
nothing x h = let l = h.1 in omega arith

no_chain : (a b : ℕ) → Chain (Joins []) a b → ⊥
no_chain a b c = leads c.0 a c.1
  where
    leads : (via : List ℕ) (x : ℕ) → Leads (Joins []) x via b → ⊥
    leads [] x l = nothing (Edge x b) l
    leads (y ∷ ys) x l = nothing (Edge x y) l.0

none_present : (a : ℕ) → IsPresent [] a → ⊥
none_present a (as_node h) = nothing (Node a) h
none_present a (as_start b h) = nothing (Edge a b) h
none_present a (as_end b h) = nothing (Edge b a) h

unset : {P : Type 0} (b : Bool) → b ≡ false → (P → ⊥) → ((b ≡ true → P) × (P → b ≡ true))
unset b e n = ((λ t. absurd (both_ways b e t)), (λ p. absurd (n p)))

represents_first : (n words size : ℕ) → Represents n words [] (replicate size 0)
represents_first n words size = record {
  reach = λ x y xh yh. unset (has words (replicate size 0) x y) (has-clear words size x y) (no_chain x y);
  pairs = λ x y xh yh. unset (has words (replicate size 0) (pair_row n x) y) (has-clear words size (pair_row n x) y) (nothing (NoEdge x y));
  present = λ x xh. unset (has words (replicate size 0) (present_row n) x) (has-clear words size (present_row n) x) (none_present x);
  missing = λ x xh. unset (has words (replicate size 0) (missing_row n) x) (has-clear words size (missing_row n) x) (nothing (NoNode x));
  denying = λ x y xh h. absurd (nothing (NoEdge x y) h);
  below = All-nil (IsBelow n);
  consistent = record {
    acyclic = λ a c. no_chain a a c;
    apart = λ a b d c. no_chain a b c;
    missing = λ a d p. none_present a p;
  };
}

pub order_first : (n : ℕ) (v : BitTable) → n ≤ MAX_NODES
    → v ≡ record { rows = 2 * n + 3; words = words_for n; past = []; now = replicate ((2 * n + 3) * words_for n) 0; room = v.room }
    → IsOrder n v [] (0 ∷ []) (0 ∷ []) 0
order_first n v few is =
    let P : BitTable → Type 0 = λ w. IsOrder n w [] (0 ∷ []) (0 ∷ []) 0 in
    subst P (sym is)
    record {
      few = few;
      rows = refl;
      words = refl;
      moments_all = omega arith;
      counts_all = omega arith;
      last = refl;
      rising = λ i h. absurd (omega arith);
      represents = λ i h. let e : i ≡ 0 = omega arith in rw e (represents_first n (words_for n) ((2 * n + 3) * words_for n));
      lived = refl;
    }

pub wide : (n : ℕ) → n ≤ 64 * words_for n
wide n = omega arith

pub order_sized : (n : ℕ) (v : BitTable) (ls : List (Literal ℕ)) (moments counts : List ℕ) (live : ℕ) → IsOrder n v ls moments counts live → IsSized n v
order_sized n v ls moments counts live o =
    let words = o.words in
    let w = wide n in
    (o.rows, omega arith, o.few)

-- the table represents the literals now
pub order_now : (n : ℕ) (v : BitTable) (ls : List (Literal ℕ)) (moments counts : List ℕ) (live : ℕ) → IsOrder n v ls moments counts live
    → Represents n v.words ls v.now
order_now n v ls moments counts live o =
    let s = o.represents (length ls) (omega arith) in
    let P : List (Literal ℕ) → Type 0 = λ ms. Represents n v.words ms v.now in
    subst P (take_all (length ls) ls (omega arith))
    (let Q : List ℕ → Type 0 = Represents n v.words (take (length ls) ls) in
    subst Q (ap (λ m. get_or (tables v) m []) o.last ∙ table_last v) s)

-- moments only rise
pub moment_below : (n : ℕ) (v : BitTable) (ls : List (Literal ℕ)) (moments counts : List ℕ) (live : ℕ) → IsOrder n v ls moments counts live
    → (i j : ℕ) → i + j ≤ length ls → get_or moments i 0 ≤ get_or moments (i + j) 0
moment_below n v ls moments counts live o i zero h = ap_le (i + 0) i (omega arith)
  where
    ap_le : (a b : ℕ) → a ≡ b → get_or moments b 0 ≤ get_or moments a 0
    ap_le a b e = rw e (omega arith)
moment_below n v ls moments counts live o i (suc j) h =
    let first = moment_below n v ls moments counts live o i j (omega arith) in
    let step = (o.rising (i + j) (omega arith)).0 in
    let e : i + j + 1 ≡ i + suc j = omega arith in
    let f = ap (λ x. get_or moments x 0) e in
    omega arith

-- each literal takes at most so many words
pub moment_near : (n : ℕ) (v : BitTable) (ls : List (Literal ℕ)) (moments counts : List ℕ) (live : ℕ) → IsOrder n v ls moments counts live
    → (i j : ℕ) → i + j ≤ length ls → get_or moments (i + j) 0 ≤ get_or moments i 0 + j * most_words n
moment_near n v ls moments counts live o i zero h =
    let e : i + 0 ≡ i = omega arith in
    let f = ap (λ x. get_or moments x 0) e in
    omega arith
moment_near n v ls moments counts live o i (suc j) h =
    let first = moment_near n v ls moments counts live o i j (omega arith) in
    let step = (o.rising (i + j) (omega arith)).1 in
    let e : i + j + 1 ≡ i + suc j = omega arith in
    let f = ap (λ x. get_or moments x 0) e in
    let g : (suc j) * most_words n ≡ j * most_words n + most_words n = suc-mul j (most_words n) in
    omega arith

pub order_more : (n : ℕ) (v w : BitTable) (ls : List (Literal ℕ)) (moments counts : List ℕ) (live : ℕ) (l : Literal ℕ)
    → IsOrder n v ls moments counts live → IsBelow n l → Enters n l v w → Extends v w (n * (v.words + 1) + 2) → IsConsistent (ls ++ l ∷ [])
    → (ms cs : List ℕ) → ms ≡ moments ++ length w.past ∷ [] → length cs ≡ length counts + 1 → marks_from 0 cs ≡ marks_from 0 counts
    → IsOrder n w (ls ++ l ∷ []) ms cs live
order_more n v w ls moments counts live l o below entered extends consistent ms cs moments_is counts_more marks_same =
    let size : length (ls ++ l ∷ []) ≡ length ls + 1 = length_push ls l in
    let moments_size : length ms ≡ length moments + 1 = ap length moments_is ∙ length_push moments (length w.past) in
    let all = o.moments_all in
    let counts_size = o.counts_all in
    let newest : get_or ms (length ls + 1) 0 ≡ length w.past =
    ap (λ xs. get_or xs (length ls + 1) 0) moments_is ∙ get_or_at moments (length w.past) [] 0 (length ls + 1) all in
    let older : (i : ℕ) → i ≤ length ls → get_or ms i 0 ≡ get_or moments i 0 = λ i h.
    ap (λ xs. get_or xs i 0) moments_is ∙ get_or_append_left moments (length w.past ∷ []) 0 i (omega arith) in
    let last = o.last in
    record {
      few = o.few;
      rows = extends.same_rows ∙ o.rows;
      words = extends.same_words ∙ o.words;
      moments_all = omega arith;
      counts_all = omega arith;
      last = ap (λ k. get_or ms k 0) size ∙ newest;
      rising = λ i h. elim (cases_eq i (length ls)) [
        | inl here ↦
            let before : get_or ms i 0 ≡ length v.past = older i (omega arith) ∙ ap (λ k. get_or moments k 0) here ∙ last in
            let after : get_or ms (i + 1) 0 ≡ length w.past = ap (λ k. get_or ms (k + 1) 0) here ∙ newest in
            let low = extends.at_least in
            let high = extends.at_most in
            let most : n * (v.words + 1) + 2 ≡ most_words n = ap (λ k. n * (k + 1) + 2) o.words in
            (omega arith, omega arith)
        | inr earlier ↦
            let step = o.rising i (omega arith) in
            let before = older i (omega arith) in
            let after = older (i + 1) (omega arith) in
            let low = step.0 in
            let high = step.1 in
            (omega arith, omega arith)
      ];
      represents = λ i h. elim (cases_eq i (length ls + 1)) [
        | inl here ↦
            let s = represents_more n v w ls l (order_now n v ls moments counts live o) below (let e = o.words in let f = wide n in omega arith)
            extends.same_words entered consistent in
            let whole : take i (ls ++ l ∷ []) ≡ ls ++ l ∷ [] = take_all i (ls ++ l ∷ []) (omega arith) in
            let at : get_or (tables w) (get_or ms i 0) [] ≡ w.now = ap (λ k. get_or (tables w) (get_or ms k 0) []) here
            ∙ ap (λ m. get_or (tables w) m []) newest ∙ table_last w in
            rw (whole, at) s
        | inr earlier ↦
            let low : i ≤ length ls = omega arith in
            let s = o.represents i low in
            let first : take i (ls ++ l ∷ []) ≡ take i ls = take-append-le i ls (l ∷ []) low in
            let under = moment_below n v ls moments counts live o i (length ls - i) (omega arith) in
            let e : i + (length ls - i) ≡ length ls = omega arith in
            let f = ap (λ k. get_or moments k 0) e in
            let at : get_or (tables w) (get_or ms i 0) [] ≡ get_or (tables v) (get_or moments i 0) [] =
            ap (λ m. get_or (tables w) m []) (older i low) ∙ table_kept v w (n * (v.words + 1) + 2) (get_or moments i 0) extends (omega arith) in
            rw (first, at, extends.same_words) s
      ];
      lived = o.lived ∙ ap length (sym marks_same);
    }

pub order_marked : (n : ℕ) (v : BitTable) (ls : List (Literal ℕ)) (moments counts : List ℕ) (live : ℕ) → IsOrder n v ls moments counts live
    → (cs : List ℕ) (more : ℕ) → length cs ≡ length counts → more ≡ length (marks_from 0 cs) → IsOrder n v ls moments cs more
order_marked n v ls moments counts live o cs more size lived = record {
  few = o.few;
  rows = o.rows;
  words = o.words;
  moments_all = o.moments_all;
  counts_all = size ∙ o.counts_all;
  last = o.last;
  rising = o.rising;
  represents = o.represents;
  lived = lived;
}

pub order_cut : (n : ℕ) (v w : BitTable) (ls : List (Literal ℕ)) (moments counts : List ℕ) (live : ℕ) → IsOrder n v ls moments counts live
    → (k : ℕ) → k ≤ length ls → w.rows ≡ v.rows → w.words ≡ v.words → tables w ≡ take (get_or moments k 0 + 1) (tables v)
    → (cs : List ℕ) (more : ℕ) → length cs ≡ k + 1 → more ≡ length (marks_from 0 cs)
    → IsOrder n w (take k ls) (take (k + 1) moments) cs more
order_cut n v w ls moments counts live o k low rows words cut cs more size lived =
    let all = o.moments_all in
    let count : length (take k ls) ≡ k = length-take-le k ls low in
    let frames : length (take (k + 1) moments) ≡ k + 1 = length-take-le (k + 1) moments (omega arith) in
    let same : (i : ℕ) → i ≤ k → get_or (take (k + 1) moments) i 0 ≡ get_or moments i 0 = λ i h. get_or-take (k + 1) moments i 0 (omega arith) in
    let under = moment_below n v ls moments counts live o k (length ls - k) (omega arith) in
    let e : k + (length ls - k) ≡ length ls = omega arith in
    let f = ap (λ x. get_or moments x 0) e in
    let last = o.last in
    let tables_size : length (tables v) ≡ length v.past + 1 = length_push v.past v.now in
    let cut_size : length (tables w) ≡ get_or moments k 0 + 1 = ap length cut ∙ length-take-le (get_or moments k 0 + 1) (tables v) (omega arith) in
    let pushed = length_push w.past w.now in
    record {
      few = o.few;
      rows = rows ∙ o.rows;
      words = words ∙ o.words;
      moments_all = omega arith;
      counts_all = omega arith;
      last = ap (λ x. get_or (take (k + 1) moments) x 0) count ∙ same k (omega arith) ∙ (let g : get_or moments k 0 ≡ length w.past = omega arith in g);
      rising = λ i h.
          let step = o.rising i (omega arith) in
          let before = same i (omega arith) in
          let after = same (i + 1) (omega arith) in
          let low_step = step.0 in
          let high_step = step.1 in
          (omega arith, omega arith);
      represents = λ i h.
          let s = o.represents i (omega arith) in
          let first : take i (take k ls) ≡ take i ls = take-take i k ls (omega arith) in
          let below_k = moment_below n v ls moments counts live o i (k - i) (omega arith) in
          let g : i + (k - i) ≡ k = omega arith in
          let moment = ap (λ x. get_or moments x 0) g in
          let at : get_or (tables w) (get_or (take (k + 1) moments) i 0) [] ≡ get_or (tables v) (get_or moments i 0) [] =
          ap (λ m. get_or (tables w) m []) (same i (omega arith)) ∙ ap (λ ts. get_or ts (get_or moments i 0) []) cut
          ∙ get_or-take (get_or moments k 0 + 1) (tables v) (get_or moments i 0) [] (omega arith) in
          rw (first, at, words) s;
      lived = lived;
    }

-- what was found of the literals of a slice
pub found_none : (xs ls : List (Literal ℕ)) (l : Literal ℕ) (found : Option Clash) → xs ≡ ls
    → MatchOption found (IsConsistent (xs ++ l ∷ [])) (IsClash (xs ++ l ∷ [])) → found ≡ None → IsConsistent (ls ++ l ∷ [])
found_none xs ls l None e m f = let P : List (Literal ℕ) → Type 0 = λ ms. IsConsistent (ms ++ l ∷ []) in subst P e m
found_none xs ls l (Some k) e m f = cc

pub found_some : (xs ls : List (Literal ℕ)) (l : Literal ℕ) (found : Option Clash) (k : Clash) → xs ≡ ls
    → MatchOption found (IsConsistent (xs ++ l ∷ [])) (IsClash (xs ++ l ∷ [])) → found ≡ Some k → IsClash (ls ++ l ∷ []) k
found_some xs ls l None k e m f = cc
found_some xs ls l (Some j) k e m f =
    let same : j ≡ k = cc in
    let P : List (Literal ℕ) → Type 0 = λ ms. IsClash (ms ++ l ∷ []) k in
    subst P e (let Q : Clash → Type 0 = IsClash (xs ++ l ∷ []) in subst Q same m)

-- how the graph is seen with one literal more
pub order_kept : (n : ℕ) (v w : BitTable) (ls : List (Literal ℕ)) (moments counts : List ℕ) (live : ℕ) (l : Literal ℕ)
    → IsOrder n v ls moments counts live → Extends v w (n * (v.words + 1) + 2)
    → (ks : List (Literal ℕ)) (ms cs : List ℕ) → ks ≡ ls ++ l ∷ [] → ms ≡ moments ++ length w.past ∷ [] → cs ≡ counts ++ 0 ∷ []
    → IsPushed (record { nodes = n; literals = ls; marks = marks_from 0 counts; recorded = moments }) l
    (record { nodes = n; literals = ks; marks = marks_from 0 cs; recorded = ms })
order_kept n v w ls moments counts live l o extends ks ms cs literals_are moments_are counts_are =
    let all = o.moments_all in
    let size : length ks ≡ length ls + 1 = ap length literals_are ∙ length_push ls l in
    let newest : get_or ms (length ks) 0 ≡ length w.past =
    ap (λ xs. get_or xs (length ks) 0) moments_are ∙ get_or_at moments (length w.past) [] 0 (length ks) (omega arith) in
    let before : get_or ms (length ls) 0 ≡ length v.past =
    ap (λ xs. get_or xs (length ls) 0) moments_are ∙ get_or_append_left moments (length w.past ∷ []) 0 (length ls) (omega arith) ∙ o.last in
    let most : n * (v.words + 1) + 2 ≡ most_words n = ap (λ k. n * (k + 1) + 2) o.words in
    let high = extends.at_most in
    record {
      same_nodes = refl;
      literals = literals_are;
      marks = ap (marks_from 0) counts_are ∙ marks_none 0 counts;
      recorded = ap (take (length moments)) moments_are ∙ take_at moments (length w.past ∷ []) (length moments) refl;
      words = omega arith;
    }

-- the graph cut at a mark
pub order_undone : (n : ℕ) (v w : BitTable) (ls : List (Literal ℕ)) (moments counts : List ℕ) (live : ℕ) → IsOrder n v ls moments counts live
    → (k r m : ℕ) → k < length counts → IsCutAt counts k r m → w.rows ≡ v.rows → w.words ≡ v.words → tables w ≡ take (get_or moments k 0 + 1) (tables v)
    → IsOrder n w (take k ls) (take (k + 1) moments) (take (k + 1) (set counts k r)) (m + 1)
order_undone n v w ls moments counts live o k r m inside cut rows words tables_are =
    let cs : List ℕ = take (k + 1) (set counts k r) in
    let all = o.counts_all in
    let is : cs ≡ take k counts ++ r ∷ [] = take_more_set counts k r inside in
    let short = length-take-le k counts (omega arith) in
    order_cut n v w ls moments counts live o k (omega arith) rows words tables_are cs (m + 1)
    (ap length is ∙ length_push (take k counts) r ∙ ap (λ x. x + 1) short) (sym (ap (λ xs. length (marks_from 0 xs)) is ∙ cut.many))

-- how many words are put back
pub order_cost : (n : ℕ) (v : BitTable) (ls : List (Literal ℕ)) (moments counts : List ℕ) (live : ℕ) → IsOrder n v ls moments counts live
    → (k : ℕ) → k ≤ length ls
    → (get_or moments k 0 ≤ length v.past) × (length v.past - get_or moments k 0 ≤ (length ls - k) * most_words n)
order_cost n v ls moments counts live o k low =
    let under = moment_below n v ls moments counts live o k (length ls - k) (omega arith) in
    let near = moment_near n v ls moments counts live o k (length ls - k) (omega arith) in
    let e : k + (length ls - k) ≡ length ls = omega arith in
    let f = ap (λ x. get_or moments x 0) e in
    let last = o.last in
    (omega arith, omega arith)
