-- For a caller that keeps one fact on its slots: where the micro-ops of all slots are below n, so are
-- those among any arguments.
use Rattle.std.{proofs.{Common.{◌≡◌, ℕ, ◌<◌, List, [], ◌∷◌, Option, Some, None, refl}, lemmas.Option.{slice_get-map}}, specs.Prelude.{slice_get, unwrap_or}}
use Rattle.std.specs.Option.{option_map}
use Rattle.pc_syntax.specs.declared.{bound.Bound.{Bound, TheVariants.{Op, Core}}, closed_term.ClosedArg.{ClosedArg}}
use Rattle.pc_syntax.specs.{declared.closed_term.ClosedArg.TheVariants.{Slot, Core as core_arg, Plain}, Arguments.{Argument}, Truth.{a_core}}
use Rattle.pc_syntax.specs.Closed.{meaning_of, argument_at}
use Rattle.static_preds.specs.Values.{values_of, AreOpsBelow}

-- one argument more, by what its slot stands for
with_slot : (n : ℕ) (slot : Option Bound) (rest : List Argument) → ((i : ℕ) → slot ≡ Some (Op i) → i < n)
    → AreOpsBelow n rest → AreOpsBelow n (argument_at (unwrap_or (option_map meaning_of slot) (a_core 0)) ∷ rest)
with_slot n None rest below ok = ok
with_slot n (Some (Op i)) rest below ok = (below i refl, ok)
with_slot n (Some (Core k)) rest below ok = ok

pub slots_below : (n : ℕ) (slots : List Bound) (args : List ClosedArg)
    → ((k i : ℕ) → slice_get slots k ≡ Some (Op i) → i < n) → AreOpsBelow n (values_of slots args)
slots_below n slots [] below = tt
slots_below n slots (Slot k ∷ args) below =
    rw (slice_get-map meaning_of slots k) (with_slot n (slice_get slots k) (values_of slots args) (below k) (slots_below n slots args below))
slots_below n slots (core_arg k ∷ args) below = slots_below n slots args below
slots_below n slots (Plain name ∷ args) below = slots_below n slots args below
