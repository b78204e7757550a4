-- What the bit rows tell of one literal more.
use Rattle.std.proofs.Common.{◌≡◌, ◌↔◌, ℕ, ◌*◌, ◌<◌, ◌≤◌, inl, inr, ◌+◌, Bool, true, false, List, refl, sym, subst, arith, MatchBool, MatchOption, Option, Some, None}
use Rattle.std.{proofs.lemmas.{Bool.{iff_false, both_ways, cases_eq}, List.Elements.{All-contains}}, specs.Prelude.{Contains, All}}
use Rattle.pc_common.specs.Chain.{Chain, Reach}
use Rattle.pc_ground.specs.{declared.literal.Literal.{Literal, TheVariants.{Node, Edge, NoNode, NoEdge}}, Literals.{Joins, IsPresent, IsConsistent}}
use Rattle.undo_trail.specs.BitTable.{BitTable, bit_now}
use Rattle.order_graph.specs.{declared.clash.Clash.{Clash, TheVariants.{Absent}}, Ways.{IsBelow}}
use Rattle.order_graph.specs.{Rows.{pair_row, present_row, missing_row, denier_row, Represents, leads_to, IsOver, JoinsDenied, JoinsNoneFrom}, Clashes.{JoinsNone, IsClash}}
use Rattle.order_graph.proofs.OneMore.{more, older, edge_chain, consistent_node, consistent_no_node, consistent_no_edge, consistent_edge}
use Rattle.order_graph.proofs.Represents.{leads_reach}

-- a bit that says P tells P, or what follows where P is not
told : {P Q : Type 0} (b : Bool) → ((b ≡ true) ↔ P) → ((P → ⊥) → Q) → MatchBool b P Q
told true f g = f.0 refl
told false f g = g (iff_false f refl)

pub node_told : (n : ℕ) (v : BitTable) (ls : List (Literal ℕ)) (p : ℕ) → Represents n v.words ls v.now → p < n
    → MatchBool (bit_now v (missing_row n) p) (Contains ls (NoNode p)) (IsConsistent (more ls (Node p)))
node_told n v ls p s ph = told (bit_now v (missing_row n) p) (s.missing p ph) (consistent_node ls p s.consistent)

pub no_node_told : (n : ℕ) (v : BitTable) (ls : List (Literal ℕ)) (p : ℕ) → Represents n v.words ls v.now → p < n
    → MatchBool (bit_now v (present_row n) p) (IsPresent ls p) (IsConsistent (more ls (NoNode p)))
no_node_told n v ls p s ph = told (bit_now v (present_row n) p) (s.present p ph) (consistent_no_node ls p s.consistent)

pub no_edge_told : (n : ℕ) (v : BitTable) (ls : List (Literal ℕ)) (p q : ℕ) → Represents n v.words ls v.now → p < n → q < 64 * v.words
    → MatchBool (bit_now v p q) (Chain (Joins ls) p q) (IsConsistent (more ls (NoEdge p q)))
no_edge_told n v ls p q s ph qh = told (bit_now v p q) (s.reach p q ph qh) (consistent_no_edge ls p q s.consistent)

pub pair_below : (n : ℕ) (ls : List (Literal ℕ)) (x y : ℕ) → All (IsBelow n) ls → Contains ls (NoEdge x y) → (x < n) × (y < n)
pair_below n ls x y all h = All-contains (IsBelow n) ls (NoEdge x y) all h

pub over_told : (n : ℕ) (v : BitTable) (ls : List (Literal ℕ)) (p q x y : ℕ) → Represents n v.words ls v.now → n ≤ 64 * v.words → p < n → q < n → x < n
    → y < 64 * v.words
    → IsOver v p q x y → Reach (Joins ls) x p × Reach (Joins ls) q y
over_told n v ls p q x y s wide ph qh xh yh o =
    ((leads_reach n v ls s x p xh (omega arith)).0 o.0, (leads_reach n v ls s q y qh yh).0 o.1)

pub told_over : (n : ℕ) (v : BitTable) (ls : List (Literal ℕ)) (p q x y : ℕ) → Represents n v.words ls v.now → n ≤ 64 * v.words → p < n → q < n → x < n
    → y < 64 * v.words
    → Reach (Joins ls) x p → Reach (Joins ls) q y → IsOver v p q x y
told_over n v ls p q x y s wide ph qh xh yh r t =
    ((leads_reach n v ls s x p xh (omega arith)).1 r, (leads_reach n v ls s q y qh yh).1 t)

-- where the rows have no such pair
pub joins_none : (n : ℕ) (v : BitTable) (ls : List (Literal ℕ)) (p q : ℕ) → Represents n v.words ls v.now → n ≤ 64 * v.words → p < n → q < n
    → JoinsNoneFrom n v p q 0 n → JoinsNone ls p q
joins_none n v ls p q s wide ph qh none x y h r t =
    let below = pair_below n ls x y s.below h in
    let low : y < 64 * v.words = (let b = below.1 in omega arith) in
    both_ways (bit_now v (pair_row n x) y) (none x y (omega arith) below.0 below.0 low (s.denying x y below.0 h)
    (told_over n v ls p q x y s wide ph qh below.0 low r t)) ((s.pairs x y below.0 low).1 h)

-- where the list has no such pair
pub none_listed : (n : ℕ) (v : BitTable) (ls : List (Literal ℕ)) (p q : ℕ) → Represents n v.words ls v.now → n ≤ 64 * v.words → p < n → q < n
    → ((x y : ℕ) → Contains ls (NoEdge x y) → IsOver v p q x y → ⊥) → JoinsNone ls p q
none_listed n v ls p q s wide ph qh none x y h r t =
    let below = pair_below n ls x y s.below h in
    none x y h (told_over n v ls p q x y s wide ph qh below.0 (let b = below.1 in omega arith) r t)

pub edge_free : (n : ℕ) (v : BitTable) (ls : List (Literal ℕ)) (p q : ℕ) → Represents n v.words ls v.now → n ≤ 64 * v.words → p < n → q < n
    → bit_now v (missing_row n) p ≡ false → bit_now v (missing_row n) q ≡ false → leads_to v q p ≡ false → JoinsNone ls p q
    → IsConsistent (more ls (Edge p q))
edge_free n v ls p q s wide ph qh start end back none =
    consistent_edge ls p q s.consistent (iff_false (s.missing p ph) start) (iff_false (s.missing q qh) end)
    (iff_false (leads_reach n v ls s q p qh (omega arith)) back) none

-- an edge back is a cycle
pub back_refutes : (ls : List (Literal ℕ)) (p q : ℕ) → Reach (Joins ls) q p → IsConsistent (more ls (Edge p q)) → ⊥
back_refutes ls p q r c = c.acyclic q (edge_chain ls p q q q r (inl refl))

pub over_refutes : (ls : List (Literal ℕ)) (p q x y : ℕ) → Contains ls (NoEdge x y) → Reach (Joins ls) x p → Reach (Joins ls) q y
    → IsConsistent (more ls (Edge p q)) → ⊥
over_refutes ls p q x y h r t c = c.apart x y (older ls (Edge p q) (NoEdge x y) h) (edge_chain ls p q x y r t)

-- where P can't be consistent
pub refuted : (P C : Type 0) (b : Bool) → MatchBool b P C → (P → C → ⊥) → MatchBool b (C → ⊥) C
refuted P C true h f = f h
refuted P C false h f = h

pub absence_told : (P C : Type 0) (b : Bool) (ms : List (Literal ℕ)) (a : ℕ) (r : Option Clash) → MatchBool b (r ≡ Some (Absent a)) (r ≡ None) → MatchBool b P C
    → (P → IsClash ms (Absent a)) → MatchOption r C (IsClash ms)
absence_told P C true ms a r e h f = rw e (f h)
absence_told P C false ms a r e h f = rw e h

pub none_to : {X P P' : Type 0} (Q : X → Type 0) (o : Option X) → MatchOption o P Q → (P → P') → MatchOption o P' Q
none_to Q None h f = f h
none_to Q (Some x) h f = h

-- rows that have such a pair, or none
pub pairs_told : (n : ℕ) (v : BitTable) (ls : List (Literal ℕ)) (p q : ℕ) → Represents n v.words ls v.now → n ≤ 64 * v.words → p < n → q < n
    → bit_now v (missing_row n) p ≡ false → bit_now v (missing_row n) q ≡ false → leads_to v q p ≡ false
    → (r : Bool)
    → MatchBool r (JoinsDenied n v p q) (JoinsNoneFrom n v p q 0 n)
    → MatchBool r (IsConsistent (more ls (Edge p q)) → ⊥) (IsConsistent (more ls (Edge p q)))
pairs_told n v ls p q s wide ph qh start end back true (x, y, xh, yh, over, bit) =
    let both = over_told n v ls p q x y s wide ph qh xh yh over in
    over_refutes ls p q x y ((s.pairs x y xh yh).0 bit) both.0 both.1
pairs_told n v ls p q s wide ph qh start end back false none =
    edge_free n v ls p q s wide ph qh start end back (joins_none n v ls p q s wide ph qh none)

-- one node more
pub joins_none_more : (n : ℕ) (v : BitTable) (p q i k : ℕ) → JoinsNoneFrom n v p q i k
    → ((y : ℕ) → y < 64 * v.words → bit_now v (denier_row n) k ≡ true → IsOver v p q k y → bit_now v (pair_row n k) y ≡ false)
    → JoinsNoneFrom n v p q i (k + 1)
joins_none_more n v p q i k before here = λ x y low high xh yh denier over. elim (cases_eq x k) [
  | inl same ↦
      let P : ℕ → Type 0 = λ z. bit_now v (denier_row n) z ≡ true → IsOver v p q z y → bit_now v (pair_row n z) y ≡ false in
      (subst P (sym same) (here y yh)) denier over
  | inr apart ↦ before x y low (omega arith) xh yh denier over
]
