-- The first fault of tokens is one, and it is the same for each statement of the same language.
use Rattle.std.proofs.Common.{◌≡◌, ℕ, ◌+◌, ◌<◌, ◌≤◌, Bool, List, ◌++◌, Option, Some, None, Result, Ok, Err, IfOk, length, take, drop, refl, sym, ap, subst, ◌∙◌, append_assoc, arith}
use Rattle.std.proofs.lemmas.List.{take-append-drop, take-take}
use Rattle.ll_grammar.specs.{Texts.{IsText, IsViable, IsDeepAt, NoneDeep}, FirstFault.{IsFaultAt, IsAccepted, IsFirstTokenFault, IsAnswer}}
use Rattle.ll_grammar.specs.declared.fault.Fault.{Fault, TheVariants.{Syntax, Depth}}

-- the first j of the first k, and then the rest of these
shorter : {C : Type 0} (cs : List C) (j k : ℕ) → j ≤ k → take j cs ++ drop j (take k cs) ≡ take k cs
shorter {C} cs j k below =
    ap (λ (x : List C). x ++ drop j (take k cs)) (sym (take-take j k cs below)) ∙ take-append-drop j (take k cs)

module _ {C : Type 0} (Text : List C → Type 0) (cs : List C) where
  -- fewer tokens of a viable list are viable
  pub viable-take : (j k : ℕ) → j ≤ k → IsViable Text (take k cs) → IsViable Text (take j cs)
  viable-take j k below (rest, text) =
      let front : take j cs ++ (drop j (take k cs) ++ rest) ≡ take k cs ++ rest =
      sym (append_assoc (take j cs) (drop j (take k cs)) rest) ∙ ap (λ (x : List C). x ++ rest) (shorter cs j k below) in
      (drop j (take k cs) ++ rest, subst (λ (x : List C). Text x) (sym front) text)

  -- so are those of a text
  pub viable-text : (k : ℕ) → Text cs → IsViable Text (take k cs)
  viable-text k text = (drop k cs, subst (λ (x : List C). Text x) (sym (take-append-drop k cs)) text)

  later_fault : (j k : ℕ) → IsFaultAt Text cs j → IsFaultAt Text cs k → j < k → ⊥
  later_fault j k first second below =
      let within : k ≤ length cs = second.within in
      first.through (omega arith) (viable-take (j + 1) k (omega arith) second.before)

  -- tokens have one syntax fault at most
  pub one_place : (j k : ℕ) → IsFaultAt Text cs j → IsFaultAt Text cs k → j ≡ k
  one_place j k first second =
      let below : j < k → ⊥ = later_fault j k first second in
      let above : k < j → ⊥ = later_fault k j second first in
      omega arith

  -- and none where they are a text
  pub no_place : (k : ℕ) → Text cs → IsFaultAt Text cs k → ⊥
  no_place k text fault =
      let within : k ≤ length cs = fault.within in
      let not_end : k ≡ length cs → ⊥ = λ end. fault.at_end end text in
      fault.through (omega arith) (viable-text (k + 1) text)

module _ {C : Type 0} (Marked : List C → List Bool → Type 0) (cs : List C) where
  -- tokens through one that is too deep are viable
  deep_viable : (k : ℕ) → IsDeepAt Marked cs k → IsViable (IsText Marked) (take (k + 1) cs)
  deep_viable k (within, rest, marks, marked, at) = (rest, (marks, marked))

  apart : (j k : ℕ) → IsFaultAt (IsText Marked) cs j → NoneDeep Marked cs j → IsDeepAt Marked cs k → ⊥
  apart j k fault none deep =
      let within : k < length cs = deep.0 in
      let after : k < j → ⊥ = λ below. none k below deep in
      fault.through (omega arith)
      (viable-take (IsText Marked) cs (j + 1) (k + 1) (omega arith) (deep_viable k deep))

  -- no tokens have two first faults
  pub one_fault : (first second : Fault) → IsFirstTokenFault Marked cs first → IsFirstTokenFault Marked cs second → first ≡ second
  one_fault (Syntax j) (Syntax k) first second = ap Syntax (one_place (IsText Marked) cs j k first.0 second.0)
  one_fault (Syntax j) (Depth k) first second = absurd (apart j k first.0 first.1 second.0)
  one_fault (Depth j) (Syntax k) first second = absurd (apart k j second.0 second.1 first.0)
  one_fault (Depth j) (Depth k) first second =
      let below : j < k → ⊥ = λ less. second.1 j less first.0 in
      let above : k < j → ⊥ = λ less. first.1 k less second.0 in
      let same : j ≡ k = omega arith in
      ap Depth same

  -- accepted tokens have none
  pub no_fault : (fault : Fault) → IsAccepted Marked cs → IsFirstTokenFault Marked cs fault → ⊥
  no_fault (Syntax k) accepted fault = no_place (IsText Marked) cs k accepted.0 fault.0
  no_fault (Depth k) accepted fault = accepted.1 k fault.0.0 fault.0

  -- so tokens have one answer
  pub one_answer : (first second : Option Fault) → IsAnswer Marked cs first → IsAnswer Marked cs second → first ≡ second
  one_answer None None first second = refl
  one_answer None (Some fault) first second = absurd (no_fault fault first second)
  one_answer (Some fault) None first second = absurd (no_fault fault second first)
  one_answer (Some j) (Some k) first second = ap Some (one_fault j k first second)

-- two statements of the texts have the same syntax faults
pub fault-along : {C : Type 0} (Text Other : List C → Type 0) → ((cs : List C) → Text cs → Other cs) → ((cs : List C) → Other cs → Text cs)
    → (cs : List C) (k : ℕ) → IsFaultAt Text cs k → IsFaultAt Other cs k
fault-along {C} Text Other to from cs k fault = record {
  within = fault.within;
  before = let (rest, text) = fault.before in (rest, to _ text);
  through = λ below (rest, text). fault.through below (rest, from _ text);
  at_end = λ end text. fault.at_end end (from cs text);
}

-- two statements of one language have the same first faults
module _ {C : Type 0} (Marked Other : List C → List Bool → Type 0)
    (to : (cs : List C) (marks : List Bool) → Marked cs marks → Other cs marks)
    (from : (cs : List C) (marks : List Bool) → Other cs marks → Marked cs marks) (cs : List C) where
  none_deep-along : (k : ℕ) → NoneDeep Marked cs k → NoneDeep Other cs k
  none_deep-along k none j below (within, rest, marks, other, at) = none j below (within, rest, marks, from _ marks other, at)

  pub accepted-along : IsAccepted Marked cs → IsAccepted Other cs
  accepted-along ((marks, marked), none) = ((marks, to cs marks marked), none_deep-along (length cs) none)

  pub first_fault-along : (fault : Fault) → IsFirstTokenFault Marked cs fault → IsFirstTokenFault Other cs fault
  first_fault-along (Syntax k) (fault, none) = (
    fault-along (IsText Marked) (IsText Other) (λ ds (marks, marked). (marks, to ds marks marked))
        (λ ds (marks, other). (marks, from ds marks other)) cs k fault,
    none_deep-along k none,
  )
  first_fault-along (Depth k) ((within, rest, marks, marked, at), none) =
      ((within, rest, marks, to _ marks marked, at), none_deep-along k none)

  pub answer-along : (found : Option Fault) → IsAnswer Marked cs found → IsAnswer Other cs found
  answer-along None accepted = accepted-along accepted
  answer-along (Some fault) first = first_fault-along fault first

  -- of a call that may run out of memory
  pub if_ok-along : {E : Type 0} (result : Result (Option Fault) E) → IfOk result (IsAnswer Marked cs) → IfOk result (IsAnswer Other cs)
  if_ok-along (Ok found) answer = answer-along found answer
  if_ok-along (Err e) answer = answer
