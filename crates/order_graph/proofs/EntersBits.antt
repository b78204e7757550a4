-- Literals that are entered bit by bit.
use Rattle.std.proofs.Common.{◌≡◌, ◌≢◌, ℕ, zero, suc, ◌+◌, ◌*◌, ◌<◌, ◌≤◌, inl, inr, Bool, true, false, ◌&&◌, ◌||◌, ◌==◌, if◌then◌else◌, length, refl, sym, ◌∙◌, ap, subst, arith, eq-eqb, ne_eqb}
use Rattle.std.proofs.lemmas.{Bool.{cases_eq, and_parts, or_cases, eqb-true}, List.{take_all, length_push}}
use Rattle.pc_common.proofs.Bools.{or_true}
use Rattle.undo_trail.specs.BitTable.{BitTable, bit_now, tables, Extends, HasSet, IsSameTable}
use Rattle.pc_ground.specs.declared.literal.Literal.{TheVariants.{Node, Edge, NoNode, NoEdge}}
use Rattle.order_graph.specs.Rows.{pair_row, present_row, missing_row, denier_row, leads_to, with_edge, gains, words_gained, IsSized, TakesEdge, Enters}

pub extends_same : (v : BitTable) (n : ℕ) → Extends v v n
extends_same v n =
    let size = length_push v.past v.now in
    record {
      same_rows = refl;
      same_words = refl;
      same_tables = take_all (length v.past + 1) (tables v) (omega arith);
      at_least = omega arith;
      at_most = omega arith;
    }

-- a table with the same bits, and other room
pub same_extends : (v u t : BitTable) (n : ℕ) → IsSameTable v u → Extends u t n → Extends v t n
same_extends v u t n same extends =
    let P : BitTable → Type 0 = λ x. Extends x t n in
    let e = subst P same extends in
    record { same_rows = e.same_rows; same_words = e.same_words; same_tables = e.same_tables; at_least = e.at_least; at_most = e.at_most }

pub same_edge : (n : ℕ) (v u t : BitTable) (a b : ℕ) → IsSameTable v u → Enters n (Edge a b) u t → Enters n (Edge a b) v t
same_edge n v u t a b same enters =
    let P : BitTable → Type 0 = λ x. Enters n (Edge a b) x t in
    let e = subst P same enters in
    record { reach = e.reach; pairs = e.pairs; present = e.present; missing = e.missing; denying = e.denying }

pub same_takes : (n : ℕ) (v u : BitTable) (a b : ℕ) → IsSameTable v u → TakesEdge n v a b → TakesEdge n u a b
same_takes n v u a b same takes =
    let P : BitTable → Type 0 = λ x. TakesEdge n x a b in
    subst P (sym same) record { no_cycle = takes.no_cycle; transitive = takes.transitive; ends = takes.ends }

pub same_gained : (v u : BitTable) (a b each n : ℕ) → IsSameTable v u → words_gained u a b each n ≡ words_gained v a b each n
same_gained v u a b each zero same = refl
same_gained v u a b each (suc k) same =
    ap (λ z. z + (if gains u a b k then each else 0)) (same_gained v u a b each k same)
    ∙ ap (λ (x : BitTable). words_gained v a b each k + (if gains x a b k then each else 0)) same

-- a bit that is set in another row
other_row : (v w : BitTable) (r c q d : ℕ) → HasSet v w r c → q < v.rows → d < 64 * v.words → q ≢ r → bit_now w q d ≡ bit_now v q d
other_row v w r c q d is_set qh dh apart =
    is_set q d qh dh ∙ ap (λ z. if z && (d == c) then true else bit_now v q d) (ne_eqb q r apart)

-- a bit that is set in this row
same_row : (v w : BitTable) (r c d : ℕ) → HasSet v w r c → r < v.rows → d < 64 * v.words → bit_now w r d ≡ (if d == c then true else bit_now v r d)
same_row v w r c d is_set rh dh =
    is_set r d rh dh ∙ ap (λ z. if z && (d == c) then true else bit_now v r d) (eq-eqb r r refl)

set_once : (bit is_a : Bool) → (if is_a then true else bit) ≡ (bit || is_a)
set_once true true = refl
set_once true false = refl
set_once false true = refl
set_once false false = refl

set_twice : (bit is_a is_b : Bool) → (if is_b then true else (if is_a then true else bit)) ≡ ((bit || is_a) || is_b)
set_twice true true true = refl
set_twice true true false = refl
set_twice true false true = refl
set_twice true false false = refl
set_twice false true true = refl
set_twice false true false = refl
set_twice false false true = refl
set_twice false false false = refl

-- once the rows took the edge, its ends are set as present
pub entered_edge : (n : ℕ) (v w s t : BitTable) (a b most : ℕ) → IsSized n v → Extends v w most → Extends w s 1
    → ((x y : ℕ) → x < n → y < 64 * v.words → bit_now w x y ≡ with_edge v a b x y)
    → ((q d : ℕ) → n ≤ q → q < v.rows → d < 64 * v.words → bit_now w q d ≡ bit_now v q d)
    → HasSet w s (present_row n) a → HasSet s t (present_row n) b → Enters n (Edge a b) v t
entered_edge n v w s t a b most (rows_are, wide, few) closing first closed others a_set b_set =
    let rows = closing.same_rows in let words = closing.same_words in
    let rows_then = first.same_rows in let words_then = first.same_words in
    let stays : (q d : ℕ) → q < v.rows → d < 64 * v.words → q ≢ 2 * n → bit_now t q d ≡ bit_now w q d = λ q d qh dh apart.
    other_row s t (2 * n) b q d b_set (omega arith) (omega arith) apart ∙ other_row w s (2 * n) a q d a_set (omega arith) (omega arith) apart in
    record {
      reach = λ x y xh yh. stays x y (omega arith) yh (λ e. absurd (omega arith)) ∙ closed x y xh yh;
      pairs = λ x y xh yh. stays (n + x) y (omega arith) yh (λ e. absurd (omega arith)) ∙ others (n + x) y (omega arith) (omega arith) yh;
      present = λ x xh.
          same_row s t (2 * n) b x b_set (omega arith) (omega arith)
          ∙ ap (λ z. if x == b then true else z) (same_row w s (2 * n) a x a_set (omega arith) (omega arith))
          ∙ set_twice (bit_now w (2 * n) x) (x == a) (x == b)
          ∙ ap (λ z. (z || (x == a)) || (x == b)) (others (2 * n) x (omega arith) (omega arith) (omega arith));
      missing = λ x xh. stays (2 * n + 1) x (omega arith) (omega arith) (λ e. absurd (omega arith))
          ∙ others (2 * n + 1) x (omega arith) (omega arith) (omega arith);
      denying = λ x xh. stays (2 * n + 2) x (omega arith) (omega arith) (λ e. absurd (omega arith))
          ∙ others (2 * n + 2) x (omega arith) (omega arith) (omega arith);
    }

-- what is true where the other is adds nothing to it
pub absorbs : (b c : Bool) → (c ≡ true → b ≡ true) → b ≡ (b || c)
absorbs true c f = refl
absorbs false true f = f refl
absorbs false false f = refl

-- the rows have an edge that a chain goes over
pub entered_known : (n : ℕ) (v : BitTable) (a b : ℕ) → a < n → b < n → n ≤ 64 * v.words → TakesEdge n v a b → bit_now v a b ≡ true → Enters n (Edge a b) v v
entered_known n v a b ah bh wide t known = record {
  reach = λ x y xh yh. absorbs (bit_now v x y) (leads_to v x a && leads_to v b y) (λ e.
      let both = and_parts (leads_to v x a) (leads_to v b y) e in
      t.transitive x b y xh bh yh (to_end x xh both.0) both.1);
  pairs = λ x y xh yh. refl;
  present = λ x xh. twice_none (bit_now v (present_row n) x) (x == a) (x == b)
      (λ e. at_end x a (eqb-true x a e) (t.ends known).0) (λ e. at_end x b (eqb-true x b e) (t.ends known).1);
  missing = λ x xh. refl;
  denying = λ x xh. refl;
}
  where
    twice_none : (b c d : Bool) → (c ≡ true → b ≡ true) → (d ≡ true → b ≡ true) → b ≡ ((b || c) || d)
    twice_none true c d f g = refl
    twice_none false true d f g = f refl
    twice_none false false true f g = g refl
    twice_none false false false f g = refl

    at_end : (x p : ℕ) → x ≡ p → bit_now v (present_row n) p ≡ true → bit_now v (present_row n) x ≡ true
    at_end x p e h = ap (bit_now v (present_row n)) e ∙ h

    to_end : (x : ℕ) → x < n → leads_to v x a ≡ true → bit_now v x b ≡ true
    to_end x xh leads = elim (or_cases (x == a) (bit_now v x a) leads) [
      | inl same ↦ ap (λ z. bit_now v z b) (eqb-true x a same) ∙ known
      | inr bit ↦ t.transitive x a b xh ah (omega arith) bit (ap (λ z. (a == b) || z) known ∙ or_true (a == b))
    ]

pub entered_node : (n : ℕ) (v w : BitTable) (a : ℕ) → IsSized n v → HasSet v w (present_row n) a → Enters n (Node a) v w
entered_node n v w a (rows, wide, few) set = record {
  reach = λ x y xh yh. other_row v w (2 * n) a x y set (omega arith) yh (λ e. absurd (omega arith));
  pairs = λ x y xh yh. other_row v w (2 * n) a (n + x) y set (omega arith) yh (λ e. absurd (omega arith));
  present = λ x xh. same_row v w (2 * n) a x set (omega arith) (omega arith) ∙ set_once (bit_now v (2 * n) x) (x == a);
  missing = λ x xh. other_row v w (2 * n) a (2 * n + 1) x set (omega arith) (omega arith) (λ e. absurd (omega arith));
  denying = λ x xh. other_row v w (2 * n) a (2 * n + 2) x set (omega arith) (omega arith) (λ e. absurd (omega arith));
}

pub entered_no_node : (n : ℕ) (v w : BitTable) (a : ℕ) → IsSized n v → HasSet v w (missing_row n) a → Enters n (NoNode a) v w
entered_no_node n v w a (rows, wide, few) set = record {
  reach = λ x y xh yh. other_row v w (2 * n + 1) a x y set (omega arith) yh (λ e. absurd (omega arith));
  pairs = λ x y xh yh. other_row v w (2 * n + 1) a (n + x) y set (omega arith) yh (λ e. absurd (omega arith));
  present = λ x xh. other_row v w (2 * n + 1) a (2 * n) x set (omega arith) (omega arith) (λ e. absurd (omega arith));
  missing = λ x xh. same_row v w (2 * n + 1) a x set (omega arith) (omega arith) ∙ set_once (bit_now v (2 * n + 1) x) (x == a);
  denying = λ x xh. other_row v w (2 * n + 1) a (2 * n + 2) x set (omega arith) (omega arith) (λ e. absurd (omega arith));
}

-- the pair's bit, and that a pair is denied from its first node, in a table of the same bits
pub entered_pair : (n : ℕ) (v u w t : BitTable) (a b : ℕ) → IsSized n v → a < n → IsSameTable v u → Extends u w 1
    → HasSet u w (pair_row n a) b → HasSet w t (denier_row n) a → Enters n (NoEdge a b) v t
entered_pair n v u w t a b (rows_are, wide, few) ah same extends pair denier =
    let rows : u.rows ≡ v.rows = ap (λ (x : BitTable). x.rows) same in
    let words : u.words ≡ v.words = ap (λ (x : BitTable). x.words) same in
    let rows_then = extends.same_rows in let words_then = extends.same_words in
    let bits : (q d : ℕ) → bit_now u q d ≡ bit_now v q d = λ q d. ap (λ (x : BitTable). bit_now x q d) same in
    let stays : (q d : ℕ) → q < v.rows → d < 64 * v.words → q ≢ n + a → q ≢ 2 * n + 2 → bit_now t q d ≡ bit_now v q d = λ q d qh dh apart past.
    other_row w t (2 * n + 2) a q d denier (omega arith) (omega arith) past ∙ other_row u w (n + a) b q d pair (omega arith) (omega arith) apart ∙ bits q d in
    record {
      reach = λ x y xh yh. stays x y (omega arith) yh (λ e. absurd (omega arith)) (λ e. absurd (omega arith));
      pairs = λ x y xh yh.
          other_row w t (2 * n + 2) a (n + x) y denier (omega arith) (omega arith) (λ e. absurd (omega arith))
          ∙ pair (n + x) y (omega arith) (omega arith) ∙ ap (λ z. if (z && (y == b)) then true else bit_now u (n + x) y) (same_place n x a)
          ∙ set_once (bit_now u (n + x) y) ((x == a) && (y == b)) ∙ ap (λ z. z || ((x == a) && (y == b))) (bits (n + x) y);
      present = λ x xh. stays (2 * n) x (omega arith) (omega arith) (λ e. absurd (omega arith)) (λ e. absurd (omega arith));
      missing = λ x xh. stays (2 * n + 1) x (omega arith) (omega arith) (λ e. absurd (omega arith)) (λ e. absurd (omega arith));
      denying = λ x xh.
          same_row w t (2 * n + 2) a x denier (omega arith) (omega arith)
          ∙ set_once (bit_now w (2 * n + 2) x) (x == a)
          ∙ ap (λ z. z || (x == a)) (other_row u w (n + a) b (2 * n + 2) x pair (omega arith) (omega arith) (λ e. absurd (omega arith)) ∙ bits (2 * n + 2) x);
    }
  where
    same_place : (n x a : ℕ) → (n + x == n + a) ≡ (x == a)
    same_place n x a = elim (cases_eq x a) [
      | inl same ↦ eq-eqb (n + x) (n + a) (omega arith) ∙ sym (eq-eqb x a same)
      | inr apart ↦ ne_eqb (n + x) (n + a) (λ e. apart (omega arith)) ∙ sym (ne_eqb x a apart)
    ]
