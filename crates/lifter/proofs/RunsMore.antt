-- One step more: what it makes of the open branches.
use Rattle.std.proofs.Common.{◌≡◌, ℕ, ◌+◌, List, [], ◌∷◌, ◌++◌, length, refl, sym, ◌∙◌, ap, subst, arith, length-append}
use Rattle.std.specs.Prelude.{slice_get, Result, Ok, Err, OnOk, is_ok, if◌then◌else◌}
use Rattle.pc_common.{specs.Case.{Case}, proofs.Places.{get_last}}
use Rattle.lifted_facts.specs.{declared.way.Way.{Way}, PlainFacts.{PlainFact, Branch}}
use Rattle.lifted_facts.specs.Lifted.{LiftedLeaf, LiftedStep, derive, split, close, HasFact, HasPart, HasSides, Closes, Advances, Runs}
use Rattle.lifted_facts.proofs.RunLaws.{runs_then, one_step}

pub last_fact : (b : Branch) (g : PlainFact) (n : ℕ) → length b ≡ n → HasFact (b ++ g ∷ []) n g
last_fact b g n e = ap (slice_get (b ++ g ∷ [])) (sym e) ∙ get_last b g

pub one_longer : (b : Branch) (g : PlainFact) (n m : ℕ) → length b ≡ n → m ≡ n + 1 → length (b ++ g ∷ []) ≡ m
one_longer b g n m e f = (let l = length-append b (g ∷ []) in omega (arith, l, e, f))

module _ (c : Case) (start : List Branch) where
  ran : (old new : List LiftedStep) (s : LiftedStep) (mid next : List Branch) → new ≡ old ++ s ∷ [] → Runs c old start mid → Advances c s mid next
      → Runs c new start next
  ran old new s mid next is r a =
      let P : List LiftedStep → Type 0 = λ xs. Runs c xs start next in
      subst P (sym is) (runs_then c old (s ∷ []) start mid next r (one_step c s mid next a))

  pub ran_derive : (old new : List LiftedStep) (way : Way) (k : ℕ) (b : Branch) (g : PlainFact) (opens : List Branch) → HasPart c b way k g
      → new ≡ old ++ derive way k ∷ [] → Runs c old start (b ∷ opens) → Runs c new start ((b ++ g ∷ []) ∷ opens)
  ran_derive old new way k b g opens part is r =
      ran old new (derive way k) (b ∷ opens) ((b ++ g ∷ []) ∷ opens) is r ((b ++ g ∷ []) ∷ [], (g, part, refl), refl)

  pub ran_split : (old new : List LiftedStep) (k : ℕ) (b : Branch) (g h : PlainFact) (opens : List Branch) → HasSides c b k g h
      → new ≡ old ++ split k ∷ [] → Runs c old start (b ∷ opens) → Runs c new start ((b ++ g ∷ []) ∷ (b ++ h ∷ []) ∷ opens)
  ran_split old new k b g h opens has is r =
      ran old new (split k) (b ∷ opens) ((b ++ g ∷ []) ∷ (b ++ h ∷ []) ∷ opens) is r ((b ++ g ∷ []) ∷ (b ++ h ∷ []) ∷ [], (g, h, has, refl), refl)

  pub ran_close : (old new : List LiftedStep) (l : LiftedLeaf) (b : Branch) (opens : List Branch) → Closes c b l
      → new ≡ old ++ close l ∷ [] → Runs c old start (b ∷ opens) → Runs c new start opens
  ran_close old new l b opens closes is r = ran old new (close l) (b ∷ opens) opens is r ([], (closes, refl), refl)

-- what follows from one step more, where memory for it was there
pub pushed : {T E P : Type 0} (r : Result T E) (new one old : List LiftedStep) → new ≡ (if is_ok r then one else old) → (new ≡ one → P) → OnOk r P
pushed (Ok x) new one old is h = h is
pushed (Err e) new one old is h = tt
