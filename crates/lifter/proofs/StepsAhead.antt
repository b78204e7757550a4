-- One step of the refutation of the ground tree: that it can be taken, and what is ahead after it.
use Rattle.std.proofs.{Common.{◌≡◌, ℕ, ◌+◌, Bool, true, false, ◌<◌, List, [], ◌∷◌, length, drop, refl, sym, ◌∙◌, subst}, lemmas.Result.{IfOk-weaker}}
use Rattle.std.specs.Prelude.{Result, IfOk}
use Rattle.pc_common.{specs.{Case.{Case}, World.{Node}, Steps.{Leaf, cycle, path, absent, false_step, Step, split, close}}, proofs.Places.{there_at}}
use Rattle.static_preds.proofs.Walked.{drop_at}
use Rattle.pc_ground.specs.{declared.{row.Row.{Row}, version.Version.TheVariants.{One}}, Tree.{Tree}, Rows.{rows_of}}
use Rattle.pc_ground.specs.Refutes.{Branch as TreeBranch, Runs as TreeRuns, Closes as TreeCloses, literals_of, left_branch, right_branch}
use Rattle.lifted_facts.specs.{PlainFacts.{Branch}, Lifted.{Runs}}
use Rattle.refutation.specs.BranchFacts.{no_node, present}
use Rattle.lifter.specs.{declared.state.State.{State}, KnownFacts.{or_at, HasKey, IsCycleKnown, IsPathKnown}}
use Rattle.lifter.specs.States.{IsGoodState, IsCovered}
use Rattle.lifter.specs.Progress.{HasFollowed, HasStepsLeft, IsNextStep, HasTakenStep, LeavesWaiting, AreWaiting, HasGoneOn, HasSplitOr, HasClosedBy}
use Rattle.lifter.proofs.{CoveredBranches.{split_known, cycle_known, path_known, absent_known, only_false}, LeftBranches.{left_by}}

module _ (c : Case) (rows : List (Row Node)) (start : List Branch) (s : State) where
  run_here : (steps : List (Step Node)) (h : HasStepsLeft c rows start s true steps) → TreeRuns One h.tree steps (h.at.first ∷ h.at.rest) []
  run_here steps h = (let P : List TreeBranch → Type 0 = λ os. TreeRuns One h.tree steps os [] in subst P h.at.are h.run)

  covered_here : (steps : List (Step Node)) (h : HasStepsLeft c rows start s true steps) → IsCovered (rows_of h.tree) s.known h.at.first
  covered_here steps h = (let P : List (Row Node) → Type 0 = λ rs. IsCovered rs s.known h.at.first in subst P h.spelled h.at.covered)

  pub can_split : (n : Bool) (p : ℕ) (rest : List (Step Node)) → HasStepsLeft c rows start s true (split n p ∷ rest)
      → IsGoodState c rows start s × HasKey s.known (or_at p)
  can_split n p rest h =
      let r = run_here (split n p ∷ rest) h in
      (h.at.good, (split_known h.tree s.known h.at.first (covered_here (split n p ∷ rest) h) n p r.0 r.1 r.2).2)

  did_split : (new : State) (n : Bool) (p : ℕ) (rest : List (Step Node)) → HasSplitOr c rows p s new → HasStepsLeft c rows start s true (split n p ∷ rest)
      → HasStepsLeft c rows start new true rest
  did_split new n p rest by h =
      let r = run_here (split n p ∷ rest) h in
      let k = split_known h.tree s.known h.at.first (covered_here (split n p ∷ rest) h) n p r.0 r.1 r.2 in
      let P : Bool → Type 0 = λ m. TreeRuns One h.tree rest (left_branch h.at.first m p r.0 ∷ right_branch One h.at.first m p r.0 r.1 ∷ h.at.rest) [] in
      record {
        tree = h.tree;
        spelled = h.spelled;
        is_some = h.is_some;
        opens = left_branch h.at.first false p r.0 ∷ right_branch One h.at.first false p r.0 r.1 ∷ h.at.rest;
        run = subst P k.0 r.3;
        at = by start h.tree h.at.first h.at.rest r.0 r.1 h.spelled h.at.good h.at.covered h.at.matched k.1;
      }

  closes_here : (l : Leaf Node) (rest : List (Step Node)) (h : HasStepsLeft c rows start s true (close l ∷ rest))
      → TreeCloses h.tree (literals_of h.tree h.at.first) l
  closes_here l rest h = (run_here (close l ∷ rest) h).0

  pub can_cycle : (nodes : List Node) (rest : List (Step Node)) → HasStepsLeft c rows start s true (close (cycle nodes) ∷ rest) → IsCycleKnown s.known nodes
  can_cycle nodes rest h = cycle_known h.tree s.known h.at.first (covered_here (close (cycle nodes) ∷ rest) h) nodes (closes_here (cycle nodes) rest h)

  pub can_path : (nodes : List Node) (rest : List (Step Node)) → HasStepsLeft c rows start s true (close (path nodes) ∷ rest) → IsPathKnown s.known nodes
  can_path nodes rest h = path_known h.tree s.known h.at.first (covered_here (close (path nodes) ∷ rest) h) nodes (closes_here (path nodes) rest h)

  pub can_absent : (a : Node) (rest : List (Step Node)) → HasStepsLeft c rows start s true (close (absent a) ∷ rest)
      → HasKey s.known (no_node a) × HasKey s.known (present a)
  can_absent a rest h = absent_known h.tree s.known h.at.first (covered_here (close (absent a) ∷ rest) h) a (closes_here (absent a) rest h)

  pub never_false : (rest : List (Step Node)) → HasStepsLeft c rows start s true (close false_step ∷ rest) → ⊥
  never_false rest h = h.is_some (only_false h.tree s.known h.at.first (covered_here (close false_step ∷ rest) h) (closes_here false_step rest h))

  pub left_leaf : (mid : State) (l : Leaf Node) (rest : List (Step Node)) → HasClosedBy s mid → (h : HasStepsLeft c rows start s true (close l ∷ rest))
      → LeavesWaiting c rows start mid h.at.rest
  left_leaf mid l rest by h = left_by c rows start s mid h.at.rest by h.at.good h.at.matched

  did_leaf : (mid new : State) (is_open : Bool) (l : Leaf Node) (rest : List (Step Node)) → HasClosedBy s mid
      → ((opens : List TreeBranch) → LeavesWaiting c rows start mid opens → HasFollowed c rows start new is_open opens)
      → HasStepsLeft c rows start s true (close l ∷ rest) → HasStepsLeft c rows start new is_open rest
  did_leaf mid new is_open l rest by goes h = record {
    tree = h.tree;
    spelled = h.spelled;
    is_some = h.is_some;
    opens = h.at.rest;
    run = (run_here (close l ∷ rest) h).1;
    at = goes h.at.rest (left_leaf mid l rest by h);
  }

  no_step : (t : Tree Node) (x : Step Node) (rest : List (Step Node)) (opens : List TreeBranch) → opens ≡ [] → TreeRuns One t (x ∷ rest) opens [] → ⊥
  no_step t x rest opens e r = (let P : List TreeBranch → Type 0 = λ os. TreeRuns One t (x ∷ rest) os [] in let none : ⊥ = subst P e r in none)

  -- no step is left where no branch is open
  pub none_left : (x : Step Node) (rest : List (Step Node)) → HasStepsLeft c rows start s false (x ∷ rest) → ⊥
  none_left x rest h = no_step h.tree x rest h.opens h.at.0 h.run

  pub none_left_at : (is_open : Bool) (steps : List (Step Node)) (k : ℕ) → is_open ≡ false → k < length steps
      → HasStepsLeft c rows start s is_open (drop k steps)
      → ⊥
  none_left_at is_open steps k refused within h =
      let x = there_at steps k within in
      let P : Bool → Type 0 = λ b. HasStepsLeft c rows start s b (drop k steps) in
      let Q : List (Step Node) → Type 0 = λ ss. HasStepsLeft c rows start s false ss in
      none_left x.0 (drop (k + 1) steps) (subst Q (drop_at steps k (k + 1) x.0 x.1 refl) (subst P refused h))

  -- and no branch where no step is left
  pub all_closed : (is_open : Bool) → HasStepsLeft c rows start s is_open [] → Runs c s.steps start []
  all_closed false h = h.at.1
  all_closed true h = (let e : h.at.first ∷ h.at.rest ≡ [] = sym h.at.are ∙ h.run in cc)

-- the next step by another name
pub next_same : {c : Case} {rows : List (Row Node)} {s : State} {x y : Step Node} → x ≡ y → IsNextStep c rows s x → IsNextStep c rows s y
next_same {c} {rows} {s} is next = (let P : Step Node → Type 0 = λ z. IsNextStep c rows s z in subst P is next)

taken_same : (c : Case) (rows : List (Row Node)) (old new : State) (x y : Step Node) (is_open : Bool) → x ≡ y → HasTakenStep c rows old new y is_open
    → HasTakenStep c rows old new x is_open
taken_same c rows old new x y is_open is taken = (let P : Step Node → Type 0 = λ z. HasTakenStep c rows old new z is_open in subst P (sym is) taken)

pub split_taken : (c : Case) (rows : List (Row Node)) (s new : State) (x : Step Node) (n : Bool) (p : ℕ) → x ≡ split n p → HasSplitOr c rows p s new
    → HasTakenStep c rows s new x true
split_taken c rows s new x n p is by = taken_same c rows s new x (split n p) true is (λ start rest h. did_split c rows start s new n p rest by h)

-- a leaf closed the first branch: the others wait
pub leaf_waits : (c : Case) (rows : List (Row Node)) (s mid : State) (l : Leaf Node) → HasClosedBy s mid → IsNextStep c rows s (close l)
    → AreWaiting c rows mid
leaf_waits c rows s mid l by next = (next.0, next.2.at.rest, left_leaf c rows next.0 s mid l next.1 by next.2)

-- and then the next one was entered
pub leaf_taken : {E : Type 0} (c : Case) (rows : List (Row Node)) (s mid new : State) (x : Step Node) (l : Leaf Node) (r : Result Bool E) → x ≡ close l
    → HasClosedBy s mid → IfOk r (HasGoneOn c rows mid new) → IfOk r (HasTakenStep c rows s new x)
leaf_taken c rows s mid new x l r is by goes =
    IfOk-weaker r (HasGoneOn c rows mid new) (HasTakenStep c rows s new x)
    (λ is_open go. taken_same c rows s new x (close l) is_open is (λ start rest h. did_leaf c rows start s mid new is_open l rest by (go start) h)) goes
