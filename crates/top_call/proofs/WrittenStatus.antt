-- The status of a run is that of the answer, unless the writing failed.
use Rattle.std.proofs.Common.{◌≡◌, ◌≢◌, ◌⊎◌, inl, inr, sym, ◌∙◌}
use Rattle.pc_common.specs.declared.status.Status.{Status, TheVariants.{WriteFault}}

pub answer_is_status : {status answer : Status} → (status ≡ answer) ⊎ (status ≡ WriteFault) → status ≢ WriteFault → answer ≡ status
answer_is_status (inl e) no_fault = sym e
answer_is_status (inr e) no_fault = absurd (no_fault e)

-- where it is one that is no fault of the sink
pub answer_is : {status answer : Status} (s : Status) → s ≢ WriteFault → (status ≡ answer) ⊎ (status ≡ WriteFault) → status ≡ s → answer ≡ s
answer_is s other (inl e) is = sym e ∙ is
answer_is s other (inr e) is = absurd (other (sym is ∙ e))

pub status_is : {status answer : Status} {s : Status} → (status ≡ answer) ⊎ (status ≡ WriteFault) → answer ≡ s → (status ≡ s) ⊎ (status ≡ WriteFault)
status_is (inl e) is = inl (e ∙ is)
status_is (inr e) is = inr e
