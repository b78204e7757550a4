-- An edge that is entered row by row.
use Rattle.std.proofs.Common.{◌≡◌, ℕ, zero, suc, ◌+◌, ◌*◌, ◌<◌, ◌≤◌, inl, inr, Bool, true, false, ◌&&◌, ◌||◌, ◌==◌, if◌then◌else◌, refl, sym, ◌∙◌, ap, subst, arith, eq-eqb, ne_eqb, not, add-one}
use Rattle.std.proofs.lemmas.Bool.{cases_eq, cases_lt, and_parts}
use Rattle.pc_common.proofs.Bools.{or_false}
use Rattle.undo_trail.{specs.BitTable.{BitTable, bit_now, Extends}, proofs.ExtendsLaws.{extends_then, extends_more}}
use Rattle.std.specs.Bool.{OnTrue}
use Rattle.order_graph.proofs.EntersBits.{absorbs, extends_same}
use Rattle.order_graph.specs.Rows.{leads_to, with_edge, gains, words_gained, IsSized, TakesEdge}

-- the rows below k took the edge from a to b
pub record AreClosedBelow (v w : BitTable) (a b k : ℕ) : Type 0 where
  pub new : (q d : ℕ) → q < k → d < 64 * v.words → bit_now w q d ≡ with_edge v a b q d
  pub old : (q d : ℕ) → k ≤ q → q < v.rows → d < 64 * v.words → bit_now w q d ≡ bit_now v q d
  pub extends : Extends v w (k * (v.words + 1))

pub words_next : (v : BitTable) (a b each k : ℕ) (gain : Bool) → gains v a b k ≡ gain
    → words_gained v a b each (k + 1) ≡ words_gained v a b each k + (if gain then each else 0)
words_next v a b each k gain e =
    ap (words_gained v a b each) (add-one k) ∙ ap (λ z. words_gained v a b each k + (if z then each else 0)) e

-- more rows change no fewer words
pub words_rise : (v : BitTable) (a b each i j : ℕ) → words_gained v a b each i ≤ words_gained v a b each (i + j)
words_rise v a b each i zero = (let e : i + 0 ≡ i = omega arith in let f = ap (words_gained v a b each) e in omega arith)
words_rise v a b each i (suc j) =
    let before = words_rise v a b each i j in
    let e : i + suc j ≡ suc (i + j) = omega arith in
    let f = ap (words_gained v a b each) e in
    omega arith

-- each row changes at most so many words
pub words_bound : (v : BitTable) (a b each k : ℕ) → words_gained v a b each k ≤ k * each
words_bound v a b each zero = omega arith
words_bound v a b each (suc k) = (let before = words_bound v a b each k in let here = one_bound each (gains v a b k) in omega arith)
  where
    one_bound : (each : ℕ) (gain : Bool) → (if gain then each else 0) ≤ each
    one_bound each true = omega arith
    one_bound each false = omega arith

-- a row that reaches b by no more than before
unreached : (v : BitTable) (a b x y : ℕ) → leads_to v x a ≡ false → with_edge v a b x y ≡ bit_now v x y
unreached v a b x y e = ap (λ z. bit_now v x y || (z && leads_to v b y)) e ∙ or_false (bit_now v x y)

reached : (v : BitTable) (a b x y : ℕ) → leads_to v x a ≡ true → with_edge v a b x y ≡ (bit_now v x y || leads_to v b y)
reached v a b x y e = ap (λ z. bit_now v x y || (z && leads_to v b y)) e

gained : (l c : Bool) → (l && not c) ≡ false → l ≡ true → c ≡ true
gained true true e f = refl
gained true false e f = cc
gained false c e f = cc

gained_first : (l c : Bool) → (l && not c) ≡ true → l ≡ true
gained_first true c e = refl
gained_first false c e = cc

-- a row that doesn't gain has all that it takes
ungained : (n : ℕ) (v : BitTable) (a b x y : ℕ) → TakesEdge n v a b → x < n → b < n → y < 64 * v.words → gains v a b x ≡ false
    → with_edge v a b x y ≡ bit_now v x y
ungained n v a b x y t xh bh yh none =
    sym (absorbs (bit_now v x y) (leads_to v x a && leads_to v b y) (λ e.
    let both = and_parts (leads_to v x a) (leads_to v b y) e in
    t.transitive x b y xh bh yh (gained (leads_to v x a) (bit_now v x b) none both.0) both.1))

-- row k is still as it was
same_gains : (v w : BitTable) (a b k : ℕ) → AreClosedBelow v w a b k → k < v.rows → a < 64 * v.words → b < 64 * v.words
    → gains w a b k ≡ gains v a b k
same_gains v w a b k c kh ah bh =
    ap (λ z. ((k == a) || z) && not (bit_now w k b)) (c.old k a (omega arith) kh ah) ∙ ap (λ z. leads_to v k a && not z) (c.old k b (omega arith) kh bh)

pub closing_passed : (n : ℕ) (v w : BitTable) (a b k : ℕ) → AreClosedBelow v w a b k → IsSized n v → k < n → a < n → b < n → TakesEdge n v a b
    → gains w a b k ≡ false → AreClosedBelow v w a b (k + 1)
closing_passed n v w a b k c (rows, wide, few) kh ah bh t none =
    let before : gains v a b k ≡ false = sym (same_gains v w a b k c (omega arith) (omega arith) (omega arith)) ∙ none in
    record {
      new = λ q d qh dh. elim (cases_eq q k) [
        | inl here ↦
            ap (λ x. bit_now w x d) here ∙ c.old k d (omega arith) (omega arith) dh ∙ sym (ungained n v a b k d t kh bh dh before)
            ∙ ap (λ x. with_edge v a b x d) (sym here)
        | inr below ↦ c.new q d (omega arith) dh
      ];
      old = λ q d h qh dh. c.old q d (omega arith) qh dh;
      extends = extends_more v w (k * (v.words + 1)) ((k + 1) * (v.words + 1)) (omega arith) c.extends;
    }

-- the row of b stays
pub end_row : (v w : BitTable) (a b k d : ℕ) → AreClosedBelow v w a b k → b < v.rows → leads_to v b a ≡ false → d < 64 * v.words
    → bit_now w b d ≡ bit_now v b d
end_row v w a b k d c bh apart dh = elim (cases_lt b k) [
  | inl below ↦ c.new b d below dh ∙ unreached v a b b d apart
  | inr above ↦ c.old b d above bh dh
]

pub closing_joined : (n : ℕ) (v w u : BitTable) (a b k most : ℕ) → AreClosedBelow v w a b k → IsSized n v → k < n → a < n → b < n → TakesEdge n v a b
    → gains w a b k ≡ true
    → ((q d : ℕ) → q < w.rows → d < 64 * w.words → bit_now u q d ≡ (if q == k then bit_now w q d || leads_to w b d else bit_now w q d))
    → most ≤ v.words + 1 → Extends w u most
    → AreClosedBelow v u a b (k + 1)
closing_joined n v w u a b k most c (rows_are, wide, few) kh ah bh t there joined most_low extends =
    let rows = c.extends.same_rows in let words = c.extends.same_words in
    let gain : gains v a b k ≡ true = sym (same_gains v w a b k c (omega arith) (omega arith) (omega arith)) ∙ there in
    let before : leads_to v k a ≡ true = gained_first (leads_to v k a) (bit_now v k b) gain in
    let end : (d : ℕ) → d < 64 * v.words → leads_to w b d ≡ leads_to v b d = λ d dh. ap (λ z. (b == d) || z)
    (end_row v w a b k d c (omega arith) t.no_cycle dh) in
    let more : (k + 1) * (v.words + 1) ≡ k * (v.words + 1) + (v.words + 1) = omega arith in
    record {
      new = λ q d qh dh. elim (cases_eq q k) [
        | inl here ↦
            joined q d (omega arith) (omega arith) ∙ ap (λ z. if z then bit_now w q d || leads_to w b d else bit_now w q d) (eq-eqb q k here)
            ∙ ap (λ z. bit_now w q d || z) (end d dh) ∙ ap (λ z. z || leads_to v b d) (c.old q d (omega arith) (omega arith) dh)
            ∙ ap (λ x. bit_now v x d || leads_to v b d) here ∙ sym (reached v a b k d before) ∙ ap (λ x. with_edge v a b x d) (sym here)
        | inr below ↦
            joined q d (omega arith) (omega arith) ∙ ap (λ z. if z then bit_now w q d || leads_to w b d else bit_now w q d) (ne_eqb q k below)
            ∙ c.new q d (omega arith) dh
      ];
      old = λ q d h qh dh.
          joined q d (omega arith) (omega arith) ∙ ap (λ z. if z then bit_now w q d || leads_to w b d else bit_now w q d)
          (ne_eqb q k (λ e. absurd (omega arith)))
          ∙ c.old q d (omega arith) qh dh;
      extends = rw more (extends_then v w u (k * (v.words + 1)) (v.words + 1) c.extends (extends_more w u most (v.words + 1) most_low extends));
    }

-- how many words the rows change, one row more
pub words_passed : (v w : BitTable) (a b each k : ℕ) → AreClosedBelow v w a b k → k < v.rows → a < 64 * v.words → b < 64 * v.words
    → gains w a b k ≡ false → words_gained v a b each (k + 1) ≡ words_gained v a b each k
words_passed v w a b each k c kh ah bh none =
    words_next v a b each k false (sym (same_gains v w a b k c kh ah bh) ∙ none)
    ∙ (let e : words_gained v a b each k + 0 ≡ words_gained v a b each k = omega arith in e)

pub words_joined : (v w : BitTable) (a b each k : ℕ) → AreClosedBelow v w a b k → k < v.rows → a < 64 * v.words → b < 64 * v.words
    → gains w a b k ≡ true → words_gained v a b each (k + 1) ≡ words_gained v a b each k + each
words_joined v w a b each k c kh ah bh there = words_next v a b each k true (sym (same_gains v w a b k c kh ah bh) ∙ there)

-- no row took the edge yet
pub closing_first : (v : BitTable) (a b : ℕ) → AreClosedBelow v v a b 0
closing_first v a b = record { new = λ q d h dh. absurd (omega arith); old = λ q d h qh dh. refl; extends = extends_same v (0 * (v.words + 1)) }

-- the rows below n took it, and n rows can change
pub closing_last : (v w : BitTable) (a b k n : ℕ) → AreClosedBelow v w a b k → k ≡ n → AreClosedBelow v w a b n
closing_last v w a b k n c e = let P : ℕ → Type 0 = AreClosedBelow v w a b in subst P e c

-- a sink stays one
pub sink_stays : (v w : BitTable) (a b k : ℕ) (is_sink : Bool) → AreClosedBelow v w a b k → b < v.rows → leads_to v b a ≡ false
    → OnTrue is_sink ((d : ℕ) → d < 64 * v.words → bit_now v b d ≡ false) → OnTrue is_sink ((d : ℕ) → d < 64 * w.words → bit_now w b d ≡ false)
sink_stays v w a b k true c bh apart sink = λ d dh.
    let words = c.extends.same_words in
    let inside : d < 64 * v.words = omega arith in
    end_row v w a b k d c bh apart inside ∙ sink d inside
sink_stays v w a b k false c bh apart sink = tt
