-- Runs of steps: one after another, and that they lead to one list of branches.
use Rattle.std.{proofs.Common.{◌≡◌, ℕ, List, [], ◌∷◌, ◌++◌, Option, Some, refl, sym, ◌∙◌, ap, subst}, specs.Prelude.{slice_get}}
use Rattle.pc_common.specs.Case.{Case}
use Rattle.lifted_facts.specs.{PlainFacts.{PlainFact, Branch}, Parts.{part_of, sides}, Lifted.{LiftedStep, derive, split, close, StepsTo, Advances, Runs}}

pub runs_then : (c : Case) (xs ys : List LiftedStep) (opens mid rest : List Branch) → Runs c xs opens mid → Runs c ys mid rest → Runs c (xs ++ ys) opens rest
runs_then c [] ys opens mid rest r q = (let P : List Branch → Type 0 = λ bs. Runs c ys bs rest in subst P (sym r) q)
runs_then c (x ∷ xs) ys opens mid rest r q = (r.0, r.1, runs_then c xs ys r.0 mid rest r.2 q)

pub runs_cut : (c : Case) (xs ys : List LiftedStep) (opens rest : List Branch) → Runs c (xs ++ ys) opens rest
    → (mid : List Branch) × Runs c xs opens mid × Runs c ys mid rest
runs_cut c [] ys opens rest r = (opens, refl, r)
runs_cut c (x ∷ xs) ys opens rest r = (let q = runs_cut c xs ys r.0 rest r.2 in (q.0, (r.0, r.1, q.1), q.2))

pub one_step : (c : Case) (s : LiftedStep) (opens next : List Branch) → Advances c s opens next → Runs c (s ∷ []) opens next
one_step c s opens next a = (next, a, refl)

-- a step has one outcome
same_fact : (b : Branch) (k : ℕ) (f g : PlainFact) → slice_get b k ≡ Some f → slice_get b k ≡ Some g → f ≡ g
same_fact b k f g p q = cc

same_part : {X : Type 0} (part : PlainFact → Option X) (f g : PlainFact) (x y : X) → f ≡ g → part f ≡ Some x → part g ≡ Some y → x ≡ y
same_part part f g x y same p q = (let e : part f ≡ part g = ap part same in cc)

steps_one : (c : Case) (s : LiftedStep) (b : Branch) (one other : List Branch) → StepsTo c s b one → StepsTo c s b other → one ≡ other
steps_one c (derive way k) b one other x y =
    let g = same_part (part_of c way) x.1.0 y.1.0 x.0 y.0 (same_fact b k x.1.0 y.1.0 x.1.1 y.1.1) x.1.2 y.1.2 in
    x.2 ∙ ap (λ (h : PlainFact). (b ++ h ∷ []) ∷ []) g ∙ sym y.2
steps_one c (split k) b one other x y =
    let both = same_part (sides c) x.2.0 y.2.0 (x.0, x.1) (y.0, y.1) (same_fact b k x.2.0 y.2.0 x.2.1 y.2.1) x.2.2 y.2.2 in
    x.3 ∙ ap (λ (h : PlainFact × PlainFact). (b ++ h.0 ∷ []) ∷ (b ++ h.1 ∷ []) ∷ []) both ∙ sym y.3
steps_one c (close l) b one other x y = x.1 ∙ sym y.1

pub advances_one : (c : Case) (s : LiftedStep) (opens one other : List Branch) → Advances c s opens one → Advances c s opens other → one ≡ other
advances_one c s [] one other x y = absurd x
advances_one c s (b ∷ opens) one other x y = x.2 ∙ ap (λ bs. bs ++ opens) (steps_one c s b x.0 y.0 x.1 y.1) ∙ sym y.2

pub runs_one : (c : Case) (ss : List LiftedStep) (opens one other : List Branch) → Runs c ss opens one → Runs c ss opens other → one ≡ other
runs_one c [] opens one other x y = sym x ∙ y
runs_one c (s ∷ ss) opens one other x y =
    runs_one c ss x.0 one other x.2 (let P : List Branch → Type 0 = λ bs. Runs c ss bs other in subst P (advances_one c s opens y.0 x.0 y.1 x.1) y.2)
