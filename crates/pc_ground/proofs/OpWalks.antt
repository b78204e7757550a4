-- The numbers of micro-ops, a place at a time.
use Rattle.std.proofs.{Common.{◌≡◌, ℕ, ◌+◌, ◌<◌, ◌≤◌, List, Some, length, sym, ◌∙◌, arith, below_more, subst}, lemmas.Option.{slice_get_within}}
use Rattle.std.specs.Prelude.{slice_get}
use Rattle.pc_common.specs.Case.{MicroOp}
use Rattle.pc_ground.{specs.NodeWords.{AreSmall}, proofs.StageWalks.{some_same}}

abbrev pub SmallBelow : List MicroOp → ℕ → Type 0
SmallBelow ops k = (j : ℕ) → j < k → (o : MicroOp) → slice_get ops j ≡ Some o → (o.g ≤ 18446744073709551615) × (o.n ≤ 18446744073709551615)

pub small_more : (ops : List MicroOp) (k : ℕ) (o : MicroOp) → SmallBelow ops k → slice_get ops k ≡ Some o
    → (o.g ≤ 18446744073709551615) × (o.n ≤ 18446744073709551615)
    → SmallBelow ops (k + 1)
small_more ops k o before at small = below_more _ _ before here
  where
    here : (p : MicroOp) → slice_get ops k ≡ Some p → (p.g ≤ 18446744073709551615) × (p.n ≤ 18446744073709551615)
    here p e = (let P : MicroOp → Type 0 = λ q. (q.g ≤ 18446744073709551615) × (q.n ≤ 18446744073709551615) in subst P (some_same (sym at ∙ e)) small)

pub small_all : (ops : List MicroOp) (k : ℕ) → length ops ≤ k → SmallBelow ops k → AreSmall ops
small_all ops k all h = λ j o at. h j (omega (arith, all, slice_get_within ops j o at)) o at
