-- Slots that stand for micro-ops of the case and for cores below 64, and one slot more.
use Rattle.std.proofs.Common.{◌≡◌, ℕ, ◌<◌, List, [], ◌∷◌, ◌++◌, inl, inr, length, arith}
use Rattle.pc_common.{specs.Case.{Case}, proofs.Places.{last_or}}
use Rattle.pc_syntax.specs.declared.bound.Bound.{Bound, TheVariants.{Op, Core}}
use Rattle.static_preds.specs.Slots.{AreInRange, IsInRange}

pub no_slots : (c : Case) → AreInRange c []
no_slots c = record { ops = λ k i h. cc; cores = λ k n h. cc }

op_in_range : (c : Case) (b : Bound) (i : ℕ) → IsInRange c b → b ≡ Op i → i < length c.ops
op_in_range c (Op j) i h e = let s : j ≡ i = cc in omega (arith, h, s)
op_in_range c (Core n) i h e = cc

core_in_range : (c : Case) (b : Bound) (n : ℕ) → IsInRange c b → b ≡ Core n → n < 64
core_in_range c (Op j) n h e = cc
core_in_range c (Core m) n h e = let s : m ≡ n = cc in omega (arith, h, s)

pub slot_more : (c : Case) (slots : List Bound) (b : Bound) → AreInRange c slots → IsInRange c b → AreInRange c (slots ++ b ∷ [])
slot_more c slots b all one =
    record {
      ops = λ k i h. elim (last_or slots b k (Op i) h) [ inl g ↦ all.ops k i g | inr e ↦ op_in_range c b i one e ];
      cores = λ k n h. elim (last_or slots b k (Core n) h) [ inl g ↦ all.cores k n g | inr e ↦ core_in_range c b n one e ];
    }
