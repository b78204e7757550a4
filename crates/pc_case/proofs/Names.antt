-- A micro-op's place by its name.
use Rattle.std.proofs.Common.{◌≡◌, ℕ, ◌+◌, ◌<◌, List, Some, Bool, true, false, ◌==◌, ◌&&◌, map, length, get_or, ap, ◌∙◌, refl, sym, true≢false}
use Rattle.std.proofs.lemmas.{Option.{slice_get-map, slice_get-get_or, slice_get_within}, Bool.{eqb-true, eq-eqb}, List.{length-map}}
use Rattle.std.specs.{Prelude.{slice_get}, Option.{option_map}}
use Rattle.pc_common.specs.Case.{MicroOp}
use Rattle.pc_case.specs.{declared.op.Op.{Op}, Plain.{micro_op}, MicroOps.{IsNamed}}
use borrow.Author.Count.{below_more}

-- the micro-op that stands at a place
pub stands_at : (ops items : List Op) (plain : List MicroOp) (i : ℕ) (o : Op) → map micro_op ops ≡ plain → items ≡ ops → i < length items
    → o ≡ get_or items i o → slice_get plain i ≡ Some (micro_op o)
stands_at ops items plain i o is same within at =
    ap (λ os. slice_get os i) (sym is ∙ ap (map micro_op) (sym same))
    ∙ slice_get-map micro_op items i ∙ ap (option_map micro_op) (slice_get-get_or items i o within) ∙ ap (λ p. Some (micro_op p)) (sym at)

-- places stand for places
pub place_within : (ops items : List Op) (plain : List MicroOp) (k : ℕ) (o : MicroOp) → map micro_op ops ≡ plain → items ≡ ops → slice_get plain k ≡ Some o
    → k < length items
place_within ops items plain k o is same at =
    let long : length plain ≡ length items = ap length (sym is) ∙ length-map ops micro_op ∙ ap length (sym same) in
    let within = slice_get_within plain k o at in
    rw (← long) within

-- no micro-op up to place i has the name, where none before it and not the one there has
pub none_more : (plain : List MicroOp) (g n i : ℕ) (o : MicroOp) → slice_get plain i ≡ Some o → (o.g ≡ g → o.n ≡ n → ⊥)
    → ((m : ℕ) → m < i → IsNamed plain g n m → ⊥) → (m : ℕ) → m < i + 1 → IsNamed plain g n m → ⊥
none_more plain g n i o at other before = below_more (λ m. IsNamed plain g n m → ⊥) i before here
  where
    here : IsNamed plain g n i → ⊥
    here named =
        let e : Some named.0 ≡ Some o = sym named.1 ∙ at in
        let f : named.0 ≡ o = cc in
        other (ap (λ p. p.g) (sym f) ∙ named.2) (ap (λ p. p.n) (sym f) ∙ named.3)

-- what `==` says of two names
pub one_name : (a g b n : ℕ) → true ≡ ((a == g) && (b == n)) → (a ≡ g) × (b ≡ n)
one_name a g b n h = by (a == g) (b == n) refl refl h
  where
    by : (s t : Bool) → (a == g) ≡ s → (b == n) ≡ t → true ≡ (s && t) → (a ≡ g) × (b ≡ n)
    by true true e f h = (eqb-true a g e, eqb-true b n f)
    by true false e f h = absurd (true≢false h)
    by false t e f h = absurd (true≢false h)

pub other_name : (a g b n : ℕ) → false ≡ ((a == g) && (b == n)) → a ≡ g → b ≡ n → ⊥
other_name a g b n h e f =
    let x : (a == g) ≡ true = eq-eqb a g e in
    let y : (b == n) ≡ true = eq-eqb b n f in
    true≢false (sym (h ∙ rw (x, y)))
