-- What a listing without a fault says is sound.
use Rattle.std.proofs.Common.{◌≡◌, ℕ, zero, suc, ◌<◌, ◌≤◌, Bool, true, false, List, [], ◌∷◌, ◌++◌, Option, Some, None, length, slice_get, if◌then◌else◌, nat_lt, refl, sym, ap, subst, ◌∙◌, ◌⊎◌, inl, inr, arith}
use Rattle.std.{proofs.lemmas.{Bool.{ltb-true, ltb-false}, List.{length-append}}, specs.Option.{option_map}}
use Rattle.pc_common.specs.{Names.{same_name}, declared.fault.FaultKind.{FaultKind, TheVariants.{CoreNumber, TooManyOps, AgainInitial, AgainFinal, X86Column}}}
use Rattle.pc_common.specs.declared.{value.Value.{Value, TheVariants.{Number}}, limits.TheConstants.{MAX_CORE, MAX_OPS}}
use Rattle.x86_litmus.specs.{Listing.{Named, Action}, Items.{Item, initial, column, instructed, row_ended, denied, register_is, final}}
use Rattle.x86_litmus.specs.Said.{Instruction, Said, nothing, add}
use Rattle.x86_litmus.specs.Faults.{Found, found, value_at, again, thread_name, column_fault, reload, instruction_fault, fault_of, open_fault, says, unless, judged}
use Rattle.x86_litmus.{specs.Sound.{IsOnce, IsSound}, proofs.Bytes.{same_self}}

-- one more value of a location that has none
value_absent : (values : List (List ℕ × ℕ)) (w : List ℕ) (k : ℕ) (e : List ℕ × ℕ) → value_at values w ≡ None → slice_get values k ≡ Some e → e.0 ≡ w → ⊥
value_absent [] w k e none at same = cc
value_absent (v ∷ values) w k e none at same = by (λ j h. value_absent values w j e h) (same_name w v.0) refl none k at
  where
    by : ((j : ℕ) → value_at values w ≡ None → slice_get values j ≡ Some e → e.0 ≡ w → ⊥) → (b : Bool) → same_name w v.0 ≡ b
        → (if b then Some v.1 else value_at values w) ≡ None → (k : ℕ) → slice_get (v ∷ values) k ≡ Some e → ⊥
    by later true h none k at = cc
    by later false h none zero at =
        let here : v ≡ e = cc in
        let yes = same_self w in
        let no : same_name w w ≡ false = ap (same_name w) (sym same ∙ ap (λ (x : List ℕ × ℕ). x.0) (sym here)) ∙ h in cc
    by later false h none (suc j) at = later j none at same

-- where an element of a longer list stands
pushed_at : (values : List (List ℕ × ℕ)) (v : List ℕ × ℕ) (k : ℕ) (e : List ℕ × ℕ) → slice_get (values ++ v ∷ []) k ≡ Some e
    → (slice_get values k ≡ Some e) ⊎ ((k ≡ length values) × (v ≡ e))
pushed_at [] v zero e at = inr (refl, cc)
pushed_at [] v (suc k) e at = absurd (cc)
pushed_at (x ∷ values) v zero e at = inl at
pushed_at (x ∷ values) v (suc k) e at =
    elim (pushed_at values v k e at) [
      | inl h ↦ inl h
      | inr h ↦ inr (omega (arith, h.0), h.1)
    ]

once_more : (values : List (List ℕ × ℕ)) (v : List ℕ × ℕ) → value_at values v.0 ≡ None → IsOnce values → IsOnce (values ++ v ∷ [])
once_more values v none once j k a b at bt same =
    elim (pushed_at values v j a at) [
      | inl here ↦ elim (pushed_at values v k b bt) [
        | inl there ↦ once j k a b here there same
        | inr there ↦ absurd (value_absent values v.0 j a none here (same ∙ ap (λ (x : List ℕ × ℕ). x.0) (sym there.1)))
      ]
      | inr here ↦ elim (pushed_at values v k b bt) [
        | inl there ↦ absurd (value_absent values v.0 k b none there (sym same ∙ ap (λ (x : List ℕ × ℕ). x.0) (sym here.1)))
        | inr there ↦ here.0 ∙ sym there.0
      ]
    ]

pub again_none : (kind : Value → Value → FaultKind) (values : List (List ℕ × ℕ)) (n : Named) (v : ℕ) → again kind values n v ≡ None
    → value_at values n.word ≡ None
again_none kind values n v e = by (value_at values n.word) e
  where
    by : (o : Option ℕ) → option_map (λ first. found (kind (Number first) (Number v)) n.at) o ≡ None → o ≡ None
    by None h = refl
    by (Some x) h = cc

pub column_few : (k : ℕ) (n : Named) → column_fault k n ≡ None → k ≤ MAX_CORE
column_few k n e = by (nat_lt MAX_CORE k) refl e
  where
    by : (b : Bool) → nat_lt MAX_CORE k ≡ b
        → (if b then Some (found (CoreNumber k) n.at) else if same_name n.word (thread_name k) then None else Some (found X86Column n.at)) ≡ None
        → k ≤ MAX_CORE
    by true h f = cc
    by false h f = ltb-false MAX_CORE k h

instruction_few : (before : List Instruction) (thread at : ℕ) (action : Action) → instruction_fault before thread at action ≡ None → length before < MAX_OPS
instruction_few before thread at action e = by (nat_lt (length before) MAX_OPS) refl e
  where
    by : (b : Bool) → nat_lt (length before) MAX_OPS ≡ b
        → (if b then reload before thread action else Some (found (TooManyOps MAX_OPS) at)) ≡ None → length before < MAX_OPS
    by true h f = ltb-true (length before) MAX_OPS h
    by false h f = cc

sound_add : (s : Said) (i : Item) → fault_of s i ≡ None → IsSound s → IsSound (add s i)
sound_add s (initial n v) e h = record {
  columns = h.columns;
  few = h.few;
  initial_once = once_more s.initial (n.word, v) (again_none AgainInitial s.initial n v e) h.initial_once;
  final_once = h.final_once;
}
sound_add s (column n) e h = record {
  columns = omega (arith, column_few s.columns n e);
  few = h.few;
  initial_once = h.initial_once;
  final_once = h.final_once;
}
sound_add s (instructed thread at action) e h = record {
  columns = h.columns;
  few = omega (
    arith,
    instruction_few s.instructions thread at action e,
    length-append s.instructions (record { thread = thread; at = at; action = action } ∷ []),
  );
  initial_once = h.initial_once;
  final_once = h.final_once;
}
sound_add s (row_ended cells at) e h = h
sound_add s denied e h = record { columns = h.columns; few = h.few; initial_once = h.initial_once; final_once = h.final_once }
sound_add s (register_is thread at r v) e h =
    record { columns = h.columns; few = h.few; initial_once = h.initial_once; final_once = h.final_once }
sound_add s (final n v) e h = record {
  columns = h.columns;
  few = h.few;
  initial_once = h.initial_once;
  final_once = once_more s.final (n.word, v) (again_none AgainFinal s.final n v e) h.final_once;
}

sound_behind : (s : Said) (is : List Item) (t : Said) → judged s is ≡ says t → IsSound s → IsSound t
sound_behind s [] t e h = by (open_fault s.asked s.instructions) e
  where
    by : (o : Option Found) → unless o (says s) ≡ says t → IsSound t
    by None f = let same : s ≡ t = cc in subst IsSound same h
    by (Some x) f = cc
sound_behind s (i ∷ is) t e h = by (λ f g. sound_behind (add s i) is t f g) (fault_of s i) refl e
  where
    by : (judged (add s i) is ≡ says t → IsSound (add s i) → IsSound t) → (o : Option Found) → fault_of s i ≡ o
        → unless o (judged (add s i) is) ≡ says t → IsSound t
    by later None f g = later g (sound_add s i f h)
    by later (Some x) f g = cc

nothing_sound : IsSound nothing
nothing_sound = record {
  columns = omega arith;
  few = omega arith;
  initial_once = λ j k a b at bt same. absurd (cc);
  final_once = λ j k a b at bt same. absurd (cc);
}

-- what a listing without a fault says
pub sound : (is : List Item) (s : Said) → judged nothing is ≡ says s → IsSound s
sound is s e = sound_behind nothing is s e nothing_sound
