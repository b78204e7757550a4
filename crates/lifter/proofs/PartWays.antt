-- The part at a place of a fact's parts is the one that is named so; and which parts of And are constants.
use Rattle.std.proofs.Common.{◌≡◌, ℕ, zero, suc, ◌+◌, ◌-◌, ◌<◌, ◌≤◌, Bool, true, false, List, [], ◌∷◌, Some, length, map, drop, refl, sym, ◌∙◌, ap, subst, arith}
use Rattle.std.{proofs.lemmas.{Option.{slice_get-map, slice_get_within}, List.{drop_all}}, specs.{Prelude.{slice_get}, Option.{option_map}}}
use Rattle.pc_common.{specs.{Case.{Case}, World.{Node}}, proofs.Places.{there_at}}
use Rattle.pc_syntax.specs.declared.{closed_term.{ClosedNode.{ClosedNode}, ClosedEdge.{ClosedEdge}}, term.Sort.{Sort, TheVariants.{Microop, Core}}}
use Rattle.pc_syntax.specs.Truth.{Meaning, range_of}
use Rattle.pc_syntax.specs.Closed.{PlainClosed, plain_closed, closed_not, closed_and, closed_or, closed_implies, closed_forall, closed_exists, closed_nodes, closed_edges, closed_bind, closed_node}
use Rattle.pc_ground.specs.Tree.{Tree, always, never}
use Rattle.static_preds.{proofs.Walked.{drop_at}, specs.Values.{meanings}}
use Rattle.lifted_facts.specs.declared.{fact.{Said.{Said as SaidFact}, Fact.{Fact, TheVariants.{Said}}}, way.Way.{Way}}
use Rattle.lifted_facts.specs.{PlainFacts.{PlainFact, said, one_node, one_edge, plain_fact, plain_part}, Parts.{said_inside, part_of}}
use Rattle.lifter.specs.{Trees.{joined_tree, joined_trees}, declared.kind.FactKind.{FactKind, TheVariants.{True, False, Open}}, Kinds.{kind_of, joined_kind}}
use Rattle.lifter.{specs.{PartLists.{parts}, WayTable.{way_of}}, proofs.KindLaws.{kind_of_more}}

module _ (c : Case) (slots : List Meaning) where
  each_value : (plus : Bool) (sort : Sort) (p : PlainClosed) (k : ℕ)
      → option_map (λ v. said_inside plus p slots (v ∷ [])) (slice_get (range_of c sort) k) ≡ slice_get
      (map (λ v. said_inside plus p slots (v ∷ [])) (range_of c sort)) k
  each_value plus sort p k = sym (slice_get-map (λ v. said_inside plus p slots (v ∷ [])) (range_of c sort) k)

  pub way_part : (plus : Bool) (p : PlainClosed) (s k : ℕ) → k < length (parts c (said plus p slots s))
      → part_of c (way_of p k) (said plus p slots s) ≡ slice_get (parts c (said plus p slots s)) k
  way_part true (closed_not p) s zero h = refl
  way_part true (closed_not p) s (suc k) h = absurd (omega (arith, h))
  way_part false (closed_not p) s zero h = refl
  way_part false (closed_not p) s (suc k) h = absurd (omega (arith, h))
  way_part true (closed_and p q) s zero h = refl
  way_part true (closed_and p q) s (suc zero) h = refl
  way_part true (closed_and p q) s (suc (suc k)) h = absurd (omega (arith, h))
  way_part false (closed_or p q) s zero h = refl
  way_part false (closed_or p q) s (suc zero) h = refl
  way_part false (closed_or p q) s (suc (suc k)) h = absurd (omega (arith, h))
  way_part false (closed_implies p q) s zero h = refl
  way_part false (closed_implies p q) s (suc zero) h = refl
  way_part false (closed_implies p q) s (suc (suc k)) h = absurd (omega (arith, h))
  way_part true (closed_forall Microop p) s k h = each_value true Microop p k
  way_part true (closed_forall Core p) s k h = each_value true Core p k
  way_part false (closed_exists Microop p) s k h = each_value false Microop p k
  way_part false (closed_exists Core p) s k h = each_value false Core p k
  way_part true (closed_nodes ts) s k h = sym (slice_get-map (λ (t : ClosedNode). one_node true (closed_node c slots t)) ts k)
  way_part true (closed_edges ts) s k h = sym (slice_get-map (λ (t : ClosedEdge). one_edge true (closed_node c slots t.from) (closed_node c slots t.to)) ts k)
  way_part true (closed_bind args p) s zero h = refl
  way_part true (closed_bind args p) s (suc k) h = absurd (omega (arith, h))
  way_part false (closed_bind args p) s zero h = refl
  way_part false (closed_bind args p) s (suc k) h = absurd (omega (arith, h))
  way_part plus p s k h = absurd (omega (arith, h))

pub is_always : (t : Tree Node) → kind_of t ≡ True → t ≡ always
is_always always e = refl
is_always _ e = cc

pub is_never : (t : Tree Node) → kind_of t ≡ False → t ≡ never
is_never never e = refl
is_never _ e = cc

-- And that is False for no first part
later_false : (a b : FactKind) → joined_kind true a b ≡ False → (a ≡ False → ⊥) → b ≡ False
later_false True b e no_first = e
later_false False b e no_first = absurd (no_first refl)
later_false Open True e no_first = cc
later_false Open False e no_first = refl
later_false Open Open e no_first = cc

open_rest : (a b : FactKind) → (a ≡ False → ⊥) → b ≡ Open → joined_kind true a b ≡ Open
open_rest True b no_first e = e
open_rest False b no_first e = absurd (no_first refl)
open_rest Open b no_first e = ap (joined_kind true Open) e

pub both_open : (a b : FactKind) → joined_kind true a b ≡ Open → (a ≡ False → ⊥) × (b ≡ False → ⊥)
both_open True b e = (λ h. cc, λ h. cc)
both_open False b e = cc
both_open Open True e = (λ h. cc, λ h. cc)
both_open Open False e = cc
both_open Open Open e = (λ h. cc, λ h. cc)

pub open_not_false : (k : FactKind) → k ≡ Open → k ≡ False → ⊥
open_not_false k e f = (let clash : Open ≡ False = sym e ∙ f in cc)

pub only_true : (k : FactKind) → (k ≡ False → ⊥) → (k ≡ Open → ⊥) → k ≡ True
only_true True e f = refl
only_true False e f = absurd (e refl)
only_true Open e f = absurd (f refl)

open_then_true : (k : FactKind) → k ≡ Open → joined_kind true k True ≡ Open
open_then_true k e = ap (λ x. joined_kind true x True) e

module _ {X : Type 0} (tree : X → Tree Node) where
  abbrev pub rest_of : List X → ℕ → Tree Node
  rest_of xs k = joined_trees true (map tree (drop k xs))

  pub rest_next : (xs : List X) (k : ℕ) (x : X) → slice_get xs k ≡ Some x → rest_of xs k ≡ joined_tree true (tree x) (rest_of xs (k + 1))
  rest_next xs k x there = ap (λ ys. joined_trees true (map tree ys)) (drop_at xs k (k + 1) x there refl)

  pub kind_rest : (xs : List X) (k : ℕ) (x : X) → slice_get xs k ≡ Some x
      → kind_of (rest_of xs k) ≡ joined_kind true (kind_of (tree x)) (kind_of (rest_of xs (k + 1)))
  kind_rest xs k x there = ap kind_of (rest_next xs k x there) ∙ kind_of_more true (tree x) (map tree (drop (k + 1) xs))

  -- And from place k on is False, and not for its first part
  pub false_later : (xs : List X) (k : ℕ) (x : X) → slice_get xs k ≡ Some x → kind_of (rest_of xs k) ≡ False → (kind_of (tree x) ≡ False → ⊥)
      → kind_of (rest_of xs (k + 1)) ≡ False
  false_later xs k x there e other = later_false (kind_of (tree x)) (kind_of (rest_of xs (k + 1))) (sym (kind_rest xs k x there) ∙ e) other

  -- no part of an And that is no constant is False
  pub none_false : (xs : List X) (k : ℕ) (x : X) → slice_get xs k ≡ Some x → (kind_of (rest_of xs 0) ≡ False → ⊥) → kind_of (tree x) ≡ False → ⊥
  none_false [] k x there fine e = cc
  none_false (y ∷ ys) zero x there fine e =
      let same : y ≡ x = cc in
      fine (kind_of_more true (tree y) (map tree ys)
      ∙ ap (λ k. joined_kind true k (kind_of (joined_trees true (map tree ys)))) (ap (λ z. kind_of (tree z)) same ∙ e))
  none_false (y ∷ ys) (suc k) x there fine e = none_false ys k x there
      (λ h. fine (kind_of_more true (tree y) (map tree ys) ∙ ap (joined_kind true (kind_of (tree y))) h ∙ last (kind_of (tree y)))) e
    where
      last : (k : FactKind) → joined_kind true k False ≡ False
      last True = refl
      last _ = refl

  -- And is no constant from any place on, up to one from which on it is none
  pub open_from : (xs : List X) (r j n : ℕ) → j + n ≡ r → r < length xs → kind_of (rest_of xs r) ≡ Open → (kind_of (rest_of xs 0) ≡ False → ⊥)
      → kind_of (rest_of xs j) ≡ Open
  open_from xs r j zero e within here fine = (let P : ℕ → Type 0 = λ k. kind_of (rest_of xs k) ≡ Open in subst P
      (let same : r ≡ j = omega (arith, e) in same) here)
  open_from xs r j (suc n) e within here fine =
      let x = there_at xs j (omega (arith, e, within)) in
      kind_rest xs j x.0 x.1
      ∙ open_rest (kind_of (tree x.0)) (kind_of (rest_of xs (j + 1))) (none_false xs j x.0 x.1 fine)
      (open_from xs r (j + 1) n (omega (arith, e)) within here fine)

  pub rest_end : (xs : List X) (k : ℕ) → length xs ≤ k → rest_of xs k ≡ always
  rest_end xs k past = ap (λ ys. joined_trees true (map tree ys)) (drop_all k xs past)

  pub end_not_false : (xs : List X) (k : ℕ) → length xs ≤ k → kind_of (rest_of xs k) ≡ False → ⊥
  end_not_false xs k past e = (let yes : kind_of (rest_of xs k) ≡ True = ap kind_of (rest_end xs k past) in let clash : True ≡ False = sym yes ∙ e in cc)

  -- the last parts are True, and the one before them
  pub true_part : (xs : List X) (at next : ℕ) (x : X) → slice_get xs at ≡ Some x → at + 1 ≡ next → rest_of xs next ≡ always → kind_of (rest_of xs 0) ≡ Open
      → (kind_of (tree x) ≡ Open → ⊥) → rest_of xs at ≡ always
  true_part xs at next x there step rest whole other =
      let fine : kind_of (rest_of xs 0) ≡ False → ⊥ = λ h. open_not_false (kind_of (rest_of xs 0)) whole h in
      let yes = is_always (tree x) (only_true (kind_of (tree x)) (none_false xs at x there fine) other) in
      let P : ℕ → Type 0 = λ n. rest_of xs n ≡ always in
      rest_next xs at x there ∙ ap (λ t. joined_tree true t (rest_of xs (at + 1))) yes ∙ subst P (sym step) rest

  -- the last parts are True, and the one before them is no constant
  pub last_found : (xs : List X) (at next : ℕ) (x : X) → slice_get xs at ≡ Some x → at + 1 ≡ next → rest_of xs next ≡ always → kind_of (rest_of xs 0) ≡ Open
      → kind_of (tree x) ≡ Open → (rest_of xs (at + 1) ≡ always) × ((j : ℕ) → j < at + 1 → kind_of (rest_of xs j) ≡ Open)
  last_found xs at next x there step rest whole here =
      let P : ℕ → Type 0 = λ n. rest_of xs n ≡ always in
      let behind = subst P (sym step) rest in
      let fine : kind_of (rest_of xs 0) ≡ False → ⊥ = λ h. open_not_false (kind_of (rest_of xs 0)) whole h in
      let within = slice_get_within xs at x there in
      let last : kind_of (rest_of xs at) ≡ Open = kind_rest xs at x there ∙ ap (λ t. joined_kind true (kind_of (tree x)) (kind_of t)) behind
      ∙ open_then_true (kind_of (tree x)) here in
      (behind, λ j low. open_from xs at j (at - j) (omega (arith, low)) within last fine)

-- the part that is named as the one at a place stands there
pub member_is : (c : Case) (f : Fact) (s : SaidFact) (way : Way) (k : ℕ) (g : PlainFact) → f ≡ Said s → way ≡ way_of (plain_closed s.formula.now) k
    → k < length (parts c (plain_fact f)) → Some g ≡ part_of c way (plain_fact f) → slice_get (parts c (plain_fact f)) k ≡ Some g
member_is c f s way k g is named within made =
    let P : Fact → Type 0 = λ x. k < length (parts c (plain_fact x)) in
    let there = way_part c (meanings s.env.items) s.plus (plain_closed s.formula.now) s.start k (subst P is within) in
    ap (λ x. slice_get (parts c (plain_fact x)) k) is ∙ sym there ∙ ap (λ w. part_of c w (plain_part s)) (sym named)
    ∙ ap (λ x. part_of c way (plain_fact x)) (sym is) ∙ sym made
