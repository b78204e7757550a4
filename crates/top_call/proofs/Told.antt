-- What is told of a status with its text.
use Rattle.std.{proofs.Common.{◌≡◌, ◌≢◌, ◌⊎◌, inl, inr, ℕ, List, refl, arith}, specs.Prelude.{Ok, Err}}
use Rattle.pc_common.specs.{Outside.{SinkView}, Writes.{Writes}, declared.status.Status.{Status, TheVariants.{ReadFault, WriteFault, Memory}}}
use Rattle.top_call.specs.{Decides.{IsTold}, Runs.{HasAnswered}}

not_failed : {status : Status} → (status ≡ ReadFault) ⊎ (status ≡ Memory) → status ≡ WriteFault → ⊥
not_failed (inl is) e = cc
not_failed (inr is) e = cc

not_answered : {status : Status} → (status ≡ ReadFault) ⊎ (status ≡ Memory) → HasAnswered status → ⊥
not_answered (inl is) answered = answered.0 is
not_answered (inr is) answered = answered.1 is

-- nothing is written
pub silent_told : {K : Type 0} {view : K → SinkView} {old : K} {text : List ℕ} {status : Status}
    → (status ≡ ReadFault) ⊎ (status ≡ Memory) → IsTold view status text old old status
silent_told is = record {
  same_modelled = refl;
  count = omega arith;
  kept = inl refl;
  cause = λ e. absurd (not_failed is e);
  silent = λ again. (refl, refl);
  whole = λ answered. absurd (not_answered is answered);
  short = λ e. absurd (not_failed is e);
}

module _ {K : Type 0} {view : K → SinkView} {old new : K} {text : List ℕ} {status : Status} where
  pub written_told : {T E : Type 0} {x : T} → ((status ≡ ReadFault) ⊎ (status ≡ Memory) → ⊥) → status ≢ WriteFault
      → Writes view old new {T = T} {E = E} (Ok x) text → IsTold view status text old new status
  written_told has_text own w = record {
    same_modelled = w.same_modelled;
    count = w.count;
    kept = inl refl;
    cause = λ e. absurd (own e);
    silent = λ is. absurd (has_text is);
    whole = λ answered. w.went;
    short = λ e. absurd (own e);
  }

  pub failed_told : {T E : Type 0} {x : E} → ((status ≡ ReadFault) ⊎ (status ≡ Memory) → ⊥)
      → Writes view old new {T = T} {E = E} (Err x) text → IsTold view status text old new WriteFault
  failed_told has_text w = record {
    same_modelled = w.same_modelled;
    count = w.count;
    kept = inr refl;
    cause = λ e. w.cause;
    silent = λ is. absurd (has_text is);
    whole = λ answered. absurd (answered.2 refl);
    short = λ e. w.went;
  }
