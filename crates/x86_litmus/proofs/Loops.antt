-- What the loops over what is said keep.
use Rattle.std.proofs.Common.{◌≡◌, ℕ, zero, suc, ◌+◌, ◌<◌, Bool, true, false, List, [], ◌∷◌, ◌++◌, map, length, take, drop, get_or, slice_get, Some, cond, fold, filter, ◌==◌, append_assoc, refl, sym, ap, subst, ◌∙◌, arith}
use Rattle.std.proofs.lemmas.List.{append-nil, drop_more, map-append, map_more, length-map, Sums.{fold_more}, Elements.{filter-append}}
use Rattle.std.proofs.lemmas.{Option.{slice_get_within, get_or_from_slice_get}, Bool.{eqb-true, eq-eqb}}
use Rattle.pc_common.specs.Case.{MicroOp}
use Rattle.pc_case.specs.{declared.op.Op.{Op}, Plain.{micro_op}}
use Rattle.x86_litmus.specs.{declared.item.{Instruction.{Instruction as Placed}, Action.TheVariants.{Fence}}, Plain.{plain_instruction}}
use Rattle.x86_litmus.specs.{Said.{Instruction, Asked}, Cases.{op_of, numbered}}

-- the first of the elements that a loop has still to see
pub front : {X Y : Type 0} (f : X → Y) (xs : List X) (i : ℕ) (d : X) → i < length xs → map f (drop i xs) ≡ f (get_or xs i d) ∷ map f (drop (i + 1) xs)
front f xs i d lt = ap (map f) (drop_more xs i d lt)

none_behind : (X : Type 0) (n : ℕ) → drop {A = X} n [] ≡ []
none_behind X zero = refl
none_behind X (suc n) = refl

pub no_more : {X : Type 0} (xs : List X) (i : ℕ) → length xs ≡ i → drop i xs ≡ []
no_more {X} [] i e = none_behind X i
no_more (x ∷ xs) zero e = absurd (omega arith)
no_more (x ∷ xs) (suc i) e = no_more xs i (omega arith)

numbered_count : (words : List (List ℕ)) (asked : List Asked) (g : ℕ) (is : List Instruction) → length (numbered words asked g is) ≡ length is
numbered_count words asked g [] = refl
numbered_count words asked g (i ∷ is) = ap suc (numbered_count words asked (g + 1) is)

-- one more instruction is numbered
pub numbered_more : (words : List (List ℕ)) (asked : List Asked) (g : ℕ) (is : List Instruction) (i : Instruction)
    → numbered words asked g (is ++ i ∷ []) ≡ numbered words asked g is ++ op_of words asked (g + length is) i ∷ []
numbered_more words asked g [] i = let same : g ≡ g + 0 = omega arith in ap (λ n. op_of words asked n i ∷ []) same
numbered_more words asked g (j ∷ is) i =
    let same : g + 1 + length is ≡ g + length (j ∷ is) = omega arith in
    ap (λ (os : List MicroOp). op_of words asked g j ∷ os)
    (numbered_more words asked (g + 1) is i ∙ ap (λ n. numbered words asked (g + 1) is ++ op_of words asked n i ∷ []) same)

-- one more element of a list
pub fold_at : {X Y : Type 0} (f : Y → X → Y) (a : Y) (xs : List X) (k : ℕ) (x : X) → slice_get xs k ≡ Some x
    → fold f a (take (k + 1) xs) ≡ f (fold f a (take k xs)) x
fold_at f a xs k x at =
    fold_more f a xs k x (slice_get_within xs k x at) ∙ ap (f (fold f a (take k xs))) (get_or_from_slice_get xs k x x at)

pub map_at : {X Y : Type 0} (f : X → Y) (xs : List X) (k : ℕ) (x : X) → slice_get xs k ≡ Some x
    → map f (take (k + 1) xs) ≡ map f (take k xs) ++ f x ∷ []
map_at f xs k x at =
    map_more f xs k x (slice_get_within xs k x at) ∙ ap (λ y. map f (take k xs) ++ f y ∷ []) (get_or_from_slice_get xs k x x at)

module _ {X : Type 0} (plain : X → Instruction) (p : Instruction → Bool) (xs : List X) (i : ℕ) (d : X) (lt : i < length xs) where
  -- what is among the first elements and the next one
  next_among : filter p (map plain (take (i + 1) xs))
      ≡ filter p (map plain (take i xs)) ++ cond (p (plain (get_or xs i d))) (plain (get_or xs i d) ∷ []) []
  next_among = ap (filter p) (map_more plain xs i d lt) ∙ filter-append p (map plain (take i xs)) (plain (get_or xs i d) ∷ [])

  pub not_among : p (plain (get_or xs i d)) ≡ false → filter p (map plain (take (i + 1) xs)) ≡ filter p (map plain (take i xs))
  not_among h =
      next_among ∙ ap (λ (b : Bool). filter p (map plain (take i xs)) ++ cond b (plain (get_or xs i d) ∷ []) []) h
      ∙ append-nil (filter p (map plain (take i xs)))

  pub is_among : p (plain (get_or xs i d)) ≡ true
      → filter p (map plain (take (i + 1) xs)) ≡ filter p (map plain (take i xs)) ++ plain (get_or xs i d) ∷ []
  is_among h = next_among ∙ ap (λ (b : Bool). filter p (map plain (take i xs)) ++ cond b (plain (get_or xs i d) ∷ []) []) h

-- one more instruction after the numbered ones
pub numbered_push : (words : List (List ℕ)) (asked : List Asked) (before front : List Instruction) (i : Instruction) (os : List MicroOp) (g : ℕ)
    → os ≡ numbered words asked 0 (before ++ front) → g ≡ length os
    → os ++ op_of words asked g i ∷ [] ≡ numbered words asked 0 (before ++ (front ++ i ∷ []))
numbered_push words asked before front i os g are is =
    let count : g ≡ 0 + length (before ++ front) = omega (arith, is, ap length are, numbered_count words asked 0 (before ++ front)) in
    (λ j. are j ++ op_of words asked (count j) i ∷ [])
    ∙ sym (numbered_more words asked 0 (before ++ front) i)
    ∙ ap (numbered words asked 0) (append_assoc before front (i ∷ []))

-- what stands after the last instruction
abbrev pub nobody : Placed
nobody = record { thread = 0; at = record { offset = 0 }; action = Fence }

not_equal : (m n : ℕ) → (m ≡ n → ⊥) → (m == n) ≡ false
not_equal m n apart = by (m == n) refl
  where
    by : (b : Bool) → (m == n) ≡ b → b ≡ false
    by true e = absurd (apart (eqb-true m n e))
    by false e = refl

module _ (words : List (List ℕ)) (asked : List Asked) (before : List Instruction) (xs ys : List Placed) (same : xs ≡ ys) (k t : ℕ) (lt : k < length xs) where
  inside : k < length ys
  inside = subst (λ (zs : List Placed). k < length zs) same lt

  thread_here : (get_or ys k nobody).thread ≡ (get_or xs k nobody).thread
  thread_here = ap (λ (zs : List Placed). (get_or zs k nobody).thread) (sym same)

  -- an instruction of the thread is pushed
  pub push_then : (get_or xs k nobody).thread ≡ t → (old new : List Op) (op : Op) (g : ℕ) → new ≡ old ++ op ∷ []
      → micro_op op ≡ op_of words asked g (plain_instruction (get_or xs k nobody)) → g ≡ length old
      → map micro_op old ≡ numbered words asked 0 (before ++ filter (λ (i : Instruction). i.thread == t) (map plain_instruction (take k ys)))
      → map micro_op new ≡ numbered words asked 0 (before ++ filter (λ (i : Instruction). i.thread == t) (map plain_instruction (take (k + 1) ys)))
  push_then h old new op g pushed is count so_far =
      let x : Instruction = plain_instruction (get_or ys k nobody) in
      let p : Instruction → Bool = λ i. i.thread == t in
      let front_ : List Instruction = filter p (map plain_instruction (take k ys)) in
      let here : (x.thread == t) ≡ true = eq-eqb x.thread t (thread_here ∙ h) in
      ap (map micro_op) pushed ∙ map-append micro_op old (op ∷ [])
      ∙ ap (λ (o : MicroOp). map micro_op old ++ o ∷ []) (is ∙ ap (λ (zs : List Placed). op_of words asked g (plain_instruction (get_or zs k nobody))) same)
      ∙ numbered_push words asked before front_ x (map micro_op old) g so_far (count ∙ sym (length-map old micro_op))
      ∙ ap (λ (is : List Instruction). numbered words asked 0 (before ++ is)) (sym (is_among plain_instruction p ys k nobody inside here))

  -- another is passed over
  pub push_else : ((get_or xs k nobody).thread ≡ t → ⊥) → (os : List MicroOp)
      → os ≡ numbered words asked 0 (before ++ filter (λ (i : Instruction). i.thread == t) (map plain_instruction (take k ys)))
      → os ≡ numbered words asked 0 (before ++ filter (λ (i : Instruction). i.thread == t) (map plain_instruction (take (k + 1) ys)))
  push_else h os so_far =
      let p : Instruction → Bool = λ i. i.thread == t in
      let here : ((get_or ys k nobody).thread == t) ≡ false = not_equal (get_or ys k nobody).thread t (λ e. h (sym thread_here ∙ e)) in
      so_far
      ∙ ap (λ (is : List Instruction). numbered words asked 0 (before ++ is)) (sym (not_among plain_instruction p ys k nobody inside here))
