-- Bit rows that stand for a list of literals, and for the list with one literal more.
use Rattle.std.proofs.Common.{◌≡◌, ◌↔◌, ℕ, ◌*◌, ◌<◌, ◌≤◌, ◌⊎◌, inl, inr, Bool, true, ◌&&◌, ◌||◌, ◌==◌, List, sym, ◌∙◌, subst, arith, eq-eqb, eqb-true, not}
use Rattle.std.proofs.lemmas.Bool.{both_ways, not-true, not_from_false, false_from_ne_true, or_cases, or_left, or_right, and_parts, and_from}
use Rattle.std.{proofs.lemmas.List.Elements.{All-push}, specs.Prelude.{Contains}}
use Rattle.pc_common.specs.Chain.{Reach}
use Rattle.pc_ground.specs.declared.literal.Literal.{Literal, TheVariants.{Node, Edge, NoNode, NoEdge}}
use Rattle.pc_ground.specs.Literals.{Joins, IsPresent, IsConsistent, as_node, as_start, as_end}
use Rattle.undo_trail.specs.BitTable.{BitTable, bit_now}
use Rattle.order_graph.specs.{Ways.{IsBelow}, Rows.{pair_row, present_row, missing_row, denier_row, Represents, leads_to, Enters}}
use Rattle.order_graph.proofs.OneMore.{more, older, newest, which, node_is_none, no_node_is_none, no_edge_is_none, chain_older, chain_newer, chain_edge, edge_chain, Brings, present_older, present_which, node_brings, edge_brings, no_node_brings, no_edge_brings}

-- a bit that is another, which says P, says what P says
pub says : {P Q : Type 0} (b c : Bool) → b ≡ c → ((c ≡ true) ↔ P) → (P → Q) → (Q → P) → ((b ≡ true) ↔ Q)
says b c e f to back = ((λ h. to (f.0 (sym e ∙ h))), (λ q. e ∙ f.1 (back q)))

pub leads_reach : (n : ℕ) (v : BitTable) (ls : List (Literal ℕ)) → Represents n v.words ls v.now → (a b : ℕ) → a < n → b < 64 * v.words
    → (leads_to v a b ≡ true) ↔ Reach (Joins ls) a b
leads_reach n v ls s a b ah bh = (
  (λ h. elim (or_cases (a == b) (bit_now v a b) h) [
    | inl same ↦ inl (eqb-true a b same)
    | inr bit ↦ inr ((s.reach a b ah bh).0 bit)
  ]),
  (λ r. elim r [
    | inl same ↦ or_left (a == b) (bit_now v a b) (eq-eqb a b same)
    | inr chain ↦ or_right (a == b) (bit_now v a b) ((s.reach a b ah bh).1 chain)
  ]),
)

same_contained : (ls : List (Literal ℕ)) (l x : Literal ℕ) → (l ≡ x → ⊥) → Contains (more ls l) x → Contains ls x
same_contained ls l x n h = elim (which ls l x h) [ inl old ↦ old | inr new ↦ absurd (n new) ]

same_present : (ls : List (Literal ℕ)) (l : Literal ℕ) (a : ℕ) → (Brings l a → ⊥) → IsPresent (more ls l) a → IsPresent ls a
same_present ls l a n h = elim (present_which ls l a h) [ inl old ↦ old | inr new ↦ absurd (n new) ]

-- one bit more, where another number was not meant before
bit_more : {P Q : Type 0} (b c : Bool) (x p : ℕ) → b ≡ (c || (x == p)) → ((c ≡ true) ↔ P) → (P → Q) → (x ≡ p → Q) → (Q → P ⊎ (x ≡ p)) → ((b ≡ true) ↔ Q)
bit_more b c x p e f to new back = (
  (λ h. elim (or_cases c (x == p) (sym e ∙ h)) [ inl old ↦ to (f.0 old) | inr same ↦ new (eqb-true x p same) ]),
  (λ q. e ∙ elim (back q) [ inl old ↦ or_left c (x == p) (f.1 old) | inr same ↦ or_right c (x == p) (eq-eqb x p same) ]),
)

pub represents_more : (n : ℕ) (v w : BitTable) (ls : List (Literal ℕ)) (l : Literal ℕ) → Represents n v.words ls v.now → IsBelow n l → n ≤ 64 * v.words
    → w.words ≡ v.words → Enters n l v w → IsConsistent (more ls l) → Represents n w.words (more ls l) w.now
represents_more n v w ls (Node p) s below wide same e c =
    let l : Literal ℕ = Node p in
    record {
      reach = λ x y xh yh. says (bit_now w x y) (bit_now v x y) (e.reach x y xh (omega arith)) (s.reach x y xh (omega arith))
          (chain_older ls l x y) (chain_newer ls l (node_is_none p) x y);
      pairs = λ x y xh yh. says (bit_now w (pair_row n x) y) (bit_now v (pair_row n x) y) (e.pairs x y xh (omega arith)) (s.pairs x y xh (omega arith))
          (older ls l (NoEdge x y)) (same_contained ls l (NoEdge x y) (λ f. cc));
      present = λ x xh. bit_more (bit_now w (present_row n) x) (bit_now v (present_row n) x) x p (e.present x xh) (s.present x xh) (present_older ls l x)
          (λ f. let P : ℕ → Type 0 = IsPresent (more ls l) in subst P (sym f) (as_node (newest ls l)))
          (λ q. elim (present_which ls l x q) [ inl old ↦ inl old | inr new ↦ inr (node_brings p x new) ]);
      missing = λ x xh. says (bit_now w (missing_row n) x) (bit_now v (missing_row n) x) (e.missing x xh) (s.missing x xh)
          (older ls l (NoNode x)) (same_contained ls l (NoNode x) (λ f. cc));
      denying = λ x y xh h. e.denying x xh ∙ s.denying x y xh (same_contained ls l (NoEdge x y) (λ f. cc) h);
      below = All-push (IsBelow n) ls l s.below below;
      consistent = c;
    }
represents_more n v w ls (NoNode p) s below wide same e c =
    let l : Literal ℕ = NoNode p in
    record {
      reach = λ x y xh yh. says (bit_now w x y) (bit_now v x y) (e.reach x y xh (omega arith)) (s.reach x y xh (omega arith))
          (chain_older ls l x y) (chain_newer ls l (no_node_is_none p) x y);
      pairs = λ x y xh yh. says (bit_now w (pair_row n x) y) (bit_now v (pair_row n x) y) (e.pairs x y xh (omega arith)) (s.pairs x y xh (omega arith))
          (older ls l (NoEdge x y)) (same_contained ls l (NoEdge x y) (λ f. cc));
      present = λ x xh. says (bit_now w (present_row n) x) (bit_now v (present_row n) x) (e.present x xh) (s.present x xh)
          (present_older ls l x) (same_present ls l x (no_node_brings p x));
      missing = λ x xh. bit_more (bit_now w (missing_row n) x) (bit_now v (missing_row n) x) x p (e.missing x xh) (s.missing x xh) (older ls l (NoNode x))
          (λ f. let P : ℕ → Type 0 = λ z. Contains (more ls l) (NoNode z) in subst P (sym f) (newest ls l))
          (λ q. elim (which ls l (NoNode x) q) [ inl old ↦ inl old | inr new ↦ inr cc ]);
      denying = λ x y xh h. e.denying x xh ∙ s.denying x y xh (same_contained ls l (NoEdge x y) (λ f. cc) h);
      below = All-push (IsBelow n) ls l s.below below;
      consistent = c;
    }
represents_more n v w ls (NoEdge p r) s below wide same e c =
    let l : Literal ℕ = NoEdge p r in
    record {
      reach = λ x y xh yh. says (bit_now w x y) (bit_now v x y) (e.reach x y xh (omega arith)) (s.reach x y xh (omega arith))
          (chain_older ls l x y) (chain_newer ls l (no_edge_is_none p r) x y);
      pairs = λ x y xh yh.
          let old : Bool = bit_now v (pair_row n x) y in
          let f = s.pairs x y xh (omega arith) in
          let g = e.pairs x y xh (omega arith) in (
            (λ h. elim (or_cases old ((x == p) && (y == r)) (sym g ∙ h)) [
              | inl was ↦ older ls l (NoEdge x y) (f.0 was)
              | inr new ↦
                  let both = and_parts (x == p) (y == r) new in
                  let is : NoEdge p r ≡ NoEdge x y = (let first = eqb-true x p both.0 in let second = eqb-true y r both.1 in cc) in
                  let P : Literal ℕ → Type 0 = Contains (more ls l) in subst P is (newest ls l)
            ]),
            (λ q. g ∙ elim (which ls l (NoEdge x y) q) [
              | inl was ↦ or_left old ((x == p) && (y == r)) (f.1 was)
              | inr new ↦ or_right old ((x == p) && (y == r)) (and_from (x == p) (y == r) (eq-eqb x p cc) (eq-eqb y r cc))
            ]),
          );
      present = λ x xh. says (bit_now w (present_row n) x) (bit_now v (present_row n) x) (e.present x xh) (s.present x xh)
          (present_older ls l x) (same_present ls l x (no_edge_brings p r x));
      missing = λ x xh. says (bit_now w (missing_row n) x) (bit_now v (missing_row n) x) (e.missing x xh) (s.missing x xh)
          (older ls l (NoNode x)) (same_contained ls l (NoNode x) (λ f. cc));
      denying = λ x y xh h. e.denying x xh ∙ elim (which ls l (NoEdge x y) h) [
        | inl old ↦ or_left (bit_now v (denier_row n) x) (x == p) (s.denying x y xh old)
        | inr new ↦ or_right (bit_now v (denier_row n) x) (x == p) (eq-eqb x p cc)
      ];
      below = All-push (IsBelow n) ls l s.below below;
      consistent = c;
    }
represents_more n v w ls (Edge p r) s below wide same e c =
    let l : Literal ℕ = Edge p r in
    record {
      reach = λ x y xh yh.
          let old : Bool = bit_now v x y in
          let f = s.reach x y xh (omega arith) in
          let g = e.reach x y xh (omega arith) in
          let to_start = leads_reach n v ls s x p xh (let h = below.0 in omega arith) in
          let from_end = leads_reach n v ls s r y below.1 (omega arith) in (
            (λ h. elim (or_cases old (leads_to v x p && leads_to v r y) (sym g ∙ h)) [
              | inl was ↦ chain_older ls l x y (f.0 was)
              | inr new ↦ (let both = and_parts (leads_to v x p) (leads_to v r y) new in edge_chain ls p r x y (to_start.0 both.0) (from_end.0 both.1))
            ]),
            (λ q. g ∙ elim (chain_edge ls p r x y q) [
              | inl was ↦ or_left old (leads_to v x p && leads_to v r y) (f.1 was)
              | inr new ↦ or_right old (leads_to v x p && leads_to v r y) (and_from (leads_to v x p) (leads_to v r y) (to_start.1 new.0) (from_end.1 new.1))
            ]),
          );
      pairs = λ x y xh yh. says (bit_now w (pair_row n x) y) (bit_now v (pair_row n x) y) (e.pairs x y xh (omega arith)) (s.pairs x y xh (omega arith))
          (older ls l (NoEdge x y)) (same_contained ls l (NoEdge x y) (λ f. cc));
      present = λ x xh.
          let old : Bool = bit_now v (present_row n) x in
          let f = s.present x xh in
          let g = e.present x xh in
          let P : ℕ → Type 0 = IsPresent (more ls l) in (
            (λ h. elim (or_cases (old || (x == p)) (x == r) (sym g ∙ h)) [
              | inl first ↦ elim (or_cases old (x == p) first) [
                | inl was ↦ present_older ls l x (f.0 was)
                | inr start ↦ subst P (sym (eqb-true x p start)) (as_start r (newest ls l))
              ]
              | inr end ↦ subst P (sym (eqb-true x r end)) (as_end p (newest ls l))
            ]),
            (λ q. g ∙ elim (present_which ls l x q) [
              | inl was ↦ or_left (old || (x == p)) (x == r) (or_left old (x == p) (f.1 was))
              | inr new ↦ elim (edge_brings p r x new) [
                | inl start ↦ or_left (old || (x == p)) (x == r) (or_right old (x == p) (eq-eqb x p start))
                | inr end ↦ or_right (old || (x == p)) (x == r) (eq-eqb x r end)
              ]
            ]),
          );
      missing = λ x xh. says (bit_now w (missing_row n) x) (bit_now v (missing_row n) x) (e.missing x xh) (s.missing x xh)
          (older ls l (NoNode x)) (same_contained ls l (NoNode x) (λ f. cc));
      denying = λ x y xh h. e.denying x xh ∙ s.denying x y xh (same_contained ls l (NoEdge x y) (λ f. cc) h);
      below = All-push (IsBelow n) ls l s.below below;
      consistent = c;
    }

-- a bit that is not set says not P
pub denies : {P : Type 0} (b : Bool) → ((b ≡ true) ↔ P) → ((not b ≡ true) ↔ (P → ⊥))
denies b f = ((λ n p. both_ways b (not-true b n) (f.1 p)), (λ n. not_from_false b (false_from_ne_true b (λ e. n (f.0 e)))))
