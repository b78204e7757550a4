-- The case of what is sound: its micro-ops and its stated values are what the type of a case asks for.
use Rattle.std.proofs.Common.{◌≡◌, ℕ, zero, suc, ◌+◌, ◌<◌, ◌≤◌, Bool, true, false, not, List, [], ◌∷◌, ◌++◌, Some, length, map, slice_get, get_or, if◌then◌else◌, cond, refl, sym, ap, subst, ◌∙◌, ◌⊎◌, inl, inr, arith}
use Rattle.std.{proofs.lemmas.{Bool.{eqb-true}, List.{length-append, Folds.{list_any-append}}}, specs.Prelude.{◌↔◌, IsNone, filter, fold, ◌==◌, ◌||◌}}
use Rattle.std.specs.List.{list_any}
use Rattle.pc_common.specs.{Names.{same_name}, Case.{PageAt, Address, Value, number, MicroOp, fence as a_fence}}
use Rattle.pc_case.specs.{MicroOps.{AreMicroOps}, Stated.{IsStatedOnce}}
use Rattle.x86_litmus.specs.{Listing.{Action, fence, store, load}, Said.{Instruction, Asked, Said}}
use Rattle.x86_litmus.specs.Cases.{seen, seen_value, seen_in, seen_by, locations, number_of, test_order, address_of, kind_of_action, touched, op_of, numbered, stated, case_of}
use Rattle.x86_litmus.{specs.Sound.{IsOnce, IsSound}, proofs.Bytes.{same_is, same_self}}

-- an instruction stands in one column at most
cons_none : (k : ℕ) (i : Instruction) (is : List Instruction) → k ≤ i.thread → length (test_order k (i ∷ is)) ≡ length (test_order k is)
cons_none zero i is le = refl
cons_none (suc k) i is le = by (cons_none k i is (omega arith)) (i.thread == k) refl
  where
    by : length (test_order k (i ∷ is)) ≡ length (test_order k is) → (b : Bool) → (i.thread == k) ≡ b
        → length (test_order k (i ∷ is) ++ cond b (i ∷ filter (λ (j : Instruction). j.thread == k) is) (filter (λ (j : Instruction). j.thread == k) is))
        ≡ length (test_order k is ++ filter (λ (j : Instruction). j.thread == k) is)
    by later true h = absurd (omega (arith, eqb-true i.thread k h))
    by later false h = omega (
      arith,
      later,
      length-append (test_order k (i ∷ is)) (filter (λ (j : Instruction). j.thread == k) is),
      length-append (test_order k is) (filter (λ (j : Instruction). j.thread == k) is),
    )

cons_one : (k : ℕ) (i : Instruction) (is : List Instruction) → length (test_order k (i ∷ is)) ≤ length (test_order k is) + 1
cons_one zero i is = omega arith
cons_one (suc k) i is = by (cons_one k i is) (i.thread == k) refl
  where
    by : length (test_order k (i ∷ is)) ≤ length (test_order k is) + 1 → (b : Bool) → (i.thread == k) ≡ b
        → length (test_order k (i ∷ is) ++ cond b (i ∷ filter (λ (j : Instruction). j.thread == k) is) (filter (λ (j : Instruction). j.thread == k) is))
        ≤ length (test_order k is ++ filter (λ (j : Instruction). j.thread == k) is) + 1
    by later true h = omega (
      arith,
      cons_none k i is (omega (arith, eqb-true i.thread k h)),
      length-append (test_order k (i ∷ is)) (i ∷ filter (λ (j : Instruction). j.thread == k) is),
      length-append (test_order k is) (filter (λ (j : Instruction). j.thread == k) is),
    )
    by later false h = omega (
      arith,
      later,
      length-append (test_order k (i ∷ is)) (filter (λ (j : Instruction). j.thread == k) is),
      length-append (test_order k is) (filter (λ (j : Instruction). j.thread == k) is),
    )

order_empty : (k : ℕ) → length (test_order k []) ≡ 0
order_empty zero = refl
order_empty (suc k) = omega (arith, order_empty k, length-append (test_order k []) [])

order_few : (k : ℕ) (is : List Instruction) → length (test_order k is) ≤ length is
order_few k [] = omega (arith, order_empty k)
order_few k (i ∷ is) = omega (arith, cons_one k i is, order_few k is)

get_part : {X : Type 0} (xs ys : List X) (k : ℕ) (x : X) → slice_get (xs ++ ys) k ≡ Some x
    → (slice_get xs k ≡ Some x) ⊎ ((j : ℕ) × (slice_get ys j ≡ Some x))
get_part [] ys k x at = inr (k, at)
get_part (z ∷ xs) ys zero x at = inl at
get_part (z ∷ xs) ys (suc k) x at = get_part xs ys k x at

get_filter : {X : Type 0} (p : X → Bool) (xs : List X) (k : ℕ) (x : X) → slice_get (filter p xs) k ≡ Some x → p x ≡ true
get_filter p [] k x at = absurd (cc)
get_filter {X} p (y ∷ xs) k x at = by (λ j h. get_filter p xs j x h) (p y) refl k at
  where
    by : ((j : ℕ) → slice_get (filter p xs) j ≡ Some x → p x ≡ true) → (b : Bool) → p y ≡ b → (k : ℕ)
        → slice_get (cond b (y ∷ filter p xs) (filter p xs)) k ≡ Some x → p x ≡ true
    by later true h zero at = let same : y ≡ x = cc in subst (λ (z : X). p z ≡ true) same h
    by later true h (suc j) at = later j at
    by later false h k at = later k at

order_thread : (n : ℕ) (is : List Instruction) (k : ℕ) (i : Instruction) → slice_get (test_order n is) k ≡ Some i → i.thread < n
order_thread zero is k i at = absurd (cc)
order_thread (suc n) is k i at =
    elim (get_part (test_order n is) (filter (λ (j : Instruction). j.thread == n) is) k i at) [
      | inl h ↦ (let low : i.thread < n = order_thread n is k i h in omega arith)
      | inr h ↦ (let same : i.thread ≡ n = eqb-true i.thread n (get_filter (λ (j : Instruction). j.thread == n) is h.0 i h.1) in omega arith)
    ]

numbered_at : (words : List (List ℕ)) (asked : List Asked) (g : ℕ) (is : List Instruction) (k : ℕ) (o : MicroOp)
    → slice_get (numbered words asked g is) k ≡ Some o → (i : Instruction) × (slice_get is k ≡ Some i) × (o ≡ op_of words asked (g + k) i)
numbered_at words asked g [] k o at = absurd (cc)
numbered_at words asked g (i ∷ is) zero o at =
    let here : op_of words asked g i ≡ o = cc in
    let place : g ≡ g + 0 = omega arith in
    (i, refl, sym here ∙ ap (λ n. op_of words asked n i) place)
numbered_at words asked g (i ∷ is) (suc k) o at =
    let (j, there, is_op) = numbered_at words asked (g + 1) is k o at in
    let place : g + 1 + k ≡ g + suc k = omega arith in
    (j, there, is_op ∙ ap (λ n. op_of words asked n j) place)

numbered_length : (words : List (List ℕ)) (asked : List Asked) (g : ℕ) (is : List Instruction) → length (numbered words asked g is) ≡ length is
numbered_length words asked g [] = refl
numbered_length words asked g (i ∷ is) = ap suc (numbered_length words asked (g + 1) is)

fence_touches : (words : List (List ℕ)) (asked : List Asked) (t : ℕ) (a : Action) → (kind_of_action a ≡ a_fence) ↔ IsNone (touched words asked t a)
fence_touches words asked t fence = (λ e. refl, λ h. refl)
fence_touches words asked t (store location value) = (λ e. absurd (cc), λ h. absurd (cc))
fence_touches words asked t (load register location) = (λ e. absurd (cc), λ h. absurd (cc))

pub are_micro_ops : (s : Said) → IsSound s → AreMicroOps (case_of s).ops
are_micro_ops s h =
    let words = locations s in
    let is = test_order s.columns s.instructions in
    record {
      few = omega (arith, numbered_length words s.asked 0 is, order_few s.columns s.instructions, h.few);
      cores = λ k o at.
          let (i, there, is_op) = numbered_at words s.asked 0 is k o at in
          omega (arith, ap (λ (x : MicroOp). x.core) is_op, order_thread s.columns s.instructions k i there, h.columns);
      once = λ j k a b at bt same_g same_n.
          let (i, _, is_a) = numbered_at words s.asked 0 is j a at in
          let (l, _, is_b) = numbered_at words s.asked 0 is k b bt in
          omega (arith, ap (λ (x : MicroOp). x.g) is_a, ap (λ (x : MicroOp). x.g) is_b, same_g);
      fences = λ k o at.
          let (i, _, is_op) = numbered_at words s.asked 0 is k o at in
          subst (λ (x : MicroOp). (x.kind ≡ a_fence) ↔ IsNone x.touch) (sym is_op) (fence_touches words s.asked i.thread i.action);
    }

-- a word has a number
abbrev IsKnown : List (List ℕ) → List ℕ → Type 0
IsKnown words w = list_any (same_name w) words ≡ true

or_left : (a b : Bool) → a ≡ true → (a || b) ≡ true
or_left true b e = refl
or_left false b e = absurd (cc)

or_right : (a b : Bool) → b ≡ true → (a || b) ≡ true
or_right true b e = refl
or_right false b e = e

known_longer : (words more : List (List ℕ)) (w : List ℕ) → IsKnown words w → IsKnown (words ++ more) w
known_longer words more w h =
    list_any-append (same_name w) words more ∙ or_left (list_any (same_name w) words) (list_any (same_name w) more) h

known_last : (words : List (List ℕ)) (w : List ℕ) → IsKnown (words ++ w ∷ []) w
known_last words w =
    list_any-append (same_name w) words (w ∷ [])
    ∙ or_right (list_any (same_name w) words) (list_any (same_name w) (w ∷ [])) (or_left (same_name w w) false (same_self w))

known_seen : (words : List (List ℕ)) (v w : List ℕ) → IsKnown words w → IsKnown (seen words v) w
known_seen words v w h = by (list_any (same_name v) words)
  where
    by : (b : Bool) → IsKnown (if b then words else words ++ v ∷ []) w
    by true = h
    by false = known_longer words (v ∷ []) w h

seen_known : (words : List (List ℕ)) (w : List ℕ) → IsKnown (seen words w) w
seen_known words w = by (list_any (same_name w) words) refl
  where
    by : (b : Bool) → list_any (same_name w) words ≡ b → IsKnown (if b then words else words ++ w ∷ []) w
    by true h = h
    by false h = known_last words w

known_values : (words : List (List ℕ)) (vs : List (List ℕ × ℕ)) (w : List ℕ) → IsKnown words w → IsKnown (fold seen_value words vs) w
known_values words [] w h = h
known_values words (v ∷ vs) w h = known_values (seen words v.0) vs w (known_seen words v.0 w h)

known_in : (words : List (List ℕ)) (a : Action) (w : List ℕ) → IsKnown words w → IsKnown (seen_in words a) w
known_in words fence w h = h
known_in words (store location value) w h = known_seen words location.word w h
known_in words (load register location) w h = known_seen words location.word w h

known_instructions : (words : List (List ℕ)) (is : List Instruction) (w : List ℕ) → IsKnown words w → IsKnown (fold seen_by words is) w
known_instructions words [] w h = h
known_instructions words (i ∷ is) w h = known_instructions (seen_in words i.action) is w (known_in words i.action w h)

values_known : (words : List (List ℕ)) (vs : List (List ℕ × ℕ)) (k : ℕ) (e : List ℕ × ℕ) → slice_get vs k ≡ Some e → IsKnown (fold seen_value words vs) e.0
values_known words [] k e at = absurd (cc)
values_known words (v ∷ vs) zero e at =
    let same : v ≡ e = cc in
    known_values (seen words v.0) vs e.0 (subst (λ (x : List ℕ × ℕ). IsKnown (seen words v.0) x.0) same (seen_known words v.0))
values_known words (v ∷ vs) (suc k) e at = values_known (seen words v.0) vs k e at

initial_known : (s : Said) (k : ℕ) (e : List ℕ × ℕ) → slice_get s.initial k ≡ Some e → IsKnown (locations s) e.0
initial_known s k e at =
    known_values (fold seen_by (fold seen_value [] s.initial) s.instructions) s.final e.0
    (known_instructions (fold seen_value [] s.initial) s.instructions e.0 (values_known [] s.initial k e at))

final_known : (s : Said) (k : ℕ) (e : List ℕ × ℕ) → slice_get s.final k ≡ Some e → IsKnown (locations s) e.0
final_known s k e at = values_known (fold seen_by (fold seen_value [] s.initial) s.instructions) s.final k e at

-- the word of a number
word_at_number : (words : List (List ℕ)) (w : List ℕ) → IsKnown words w → get_or words (number_of words w) [] ≡ w
word_at_number [] w h = absurd (cc)
word_at_number (x ∷ words) w h = by (word_at_number words w) (same_name w x) refl h
  where
    by : (IsKnown words w → get_or words (number_of words w) [] ≡ w) → (b : Bool) → same_name w x ≡ b → (b || list_any (same_name w) words) ≡ true
        → get_or (x ∷ words) (cond (not b) (1 + number_of words w) 0) [] ≡ w
    by later true e known = sym (same_is w x e)
    by later false e known =
        let more : 1 + number_of words w ≡ suc (number_of words w) = omega arith in
        ap (λ n. get_or (x ∷ words) n []) more ∙ later known

one_number : (words : List (List ℕ)) (v w : List ℕ) → IsKnown words v → IsKnown words w → number_of words v ≡ number_of words w → v ≡ w
one_number words v w known known' same =
    sym (word_at_number words v known) ∙ ap (λ n. get_or words n []) same ∙ word_at_number words w known'

get_mapped : {X Y : Type 0} (f : X → Y) (xs : List X) (k : ℕ) (y : Y) → slice_get (map f xs) k ≡ Some y → (x : X) × (slice_get xs k ≡ Some x) × (f x ≡ y)
get_mapped f [] k y at = absurd (cc)
get_mapped f (x ∷ xs) zero y at = (x, refl, cc)
get_mapped f (x ∷ xs) (suc k) y at = get_mapped f xs k y at

address_number : (j k : ℕ) → address_of j ≡ address_of k → j ≡ k
address_number j k e =
    let here : PageAt = record { tag = j; index = 0 } in
    let there : PageAt = record { tag = k; index = 0 } in
    let pages : here ≡ there = cc in ap (λ (p : PageAt). p.tag) pages

stated_once : (words : List (List ℕ)) (vs : List (List ℕ × ℕ)) → ((k : ℕ) (e : List ℕ × ℕ) → slice_get vs k ≡ Some e → IsKnown words e.0)
    → IsOnce vs → IsStatedOnce (stated words vs)
stated_once words vs known once j k a b at bt same =
    let (x, there, is_a) = get_mapped (λ (e : List ℕ × ℕ). (address_of (number_of words e.0), number e.1)) vs j a at in
    let (y, then_, is_b) = get_mapped (λ (e : List ℕ × ℕ). (address_of (number_of words e.0), number e.1)) vs k b bt in
    let addresses : address_of (number_of words x.0) ≡ address_of (number_of words y.0) =
    ap (λ (p : Address × Value). p.0) is_a ∙ same ∙ sym (ap (λ (p : Address × Value). p.0) is_b) in
    once j k x y there then_
    (one_number words x.0 y.0 (known j x there) (known k y then_) (address_number (number_of words x.0) (number_of words y.0) addresses))

pub initial_once : (s : Said) → IsSound s → IsStatedOnce (case_of s).initial
initial_once s h = stated_once (locations s) s.initial (initial_known s) h.initial_once

pub final_once : (s : Said) → IsSound s → IsStatedOnce (case_of s).final
final_once s h = stated_once (locations s) s.final (final_known s) h.final_once
