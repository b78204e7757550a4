-- The branches that wait, once the first one is closed.
use Rattle.std.proofs.Common.{◌≡◌, ℕ, ◌+◌, ◌≤◌, List, [], ◌∷◌, ◌++◌, Some, length, map, take, drop, reverse, refl, sym, ◌∙◌, ap, subst, arith}
use Rattle.std.proofs.lemmas.List.{take-append-drop, take-map, length-take-le, reverse-append, Elements.{All-nil, All-pop, All-take, All-push}}
use Rattle.std.specs.Prelude.{All}
use Rattle.pc_common.specs.{Case.{Case}, World.{Node}}
use Rattle.pc_ground.specs.{declared.row.Row.{Row}, Refutes.{asserted, Branch as TreeBranch}}
use Rattle.lifted_facts.specs.{declared.fact.Fact.{Fact}, PlainFacts.{Branch, plain_fact, IsProper}, Lifted.{LiftedStep, HasFact, Runs}}
use Rattle.lifter.specs.{Trees.{fact_tree}, declared.state.{Task.TheVariants.{Close, Side}, Later.{Later}, State.{State}}, Closings.{HasClosed}}
use Rattle.lifter.specs.KnownFacts.{Entry, HaveMore}
use Rattle.lifter.specs.States.{branch_of, waiting, IsDue, AreKept, AreLater, IsGoodState, IsCovered, IsSide, AreMatched, no_more, due, side, IsMatchedState}
use Rattle.lifter.specs.{Unfoldings.{HasUnfolded}, Progress.{FollowsBranches, HasClosedFirst, LeavesWaiting, CanEnterNext, CanEnter, HasClosedBy}}
use Rattle.lifter.proofs.{RunsMore.{last_fact, one_longer, ran_close}, KnownLaws.{waiting_more, later_more, matched_more, good_same, matched_same}}
use Rattle.lifter.proofs.{StateMoves.{branch_push, good_waits}, CoveredBranches.{covered_more, covered_side}}

close_not_side : (p : ℕ) → Close ≡ Side p → ⊥
close_not_side p e = cc

-- the branch that waits last is the next one
pub popped : (old new : List Later) (l : Later) → old ≡ new ++ l ∷ [] → reverse old ≡ l ∷ reverse new
popped old new l is = ap reverse is ∙ reverse-append new (l ∷ [])

pub kept_popped : (c : Case) (old new : State) (l : Later) → new.facts.items ≡ old.facts.items → old.later.items ≡ new.later.items ++ l ∷ [] → AreKept c old
    → AreKept c new × IsProper c l.fact × IsDue c l l.task
kept_popped c old new l facts is h =
    let F : Later → Type 0 = λ w. IsProper c w.fact in
    let D : Later → Type 0 = λ w. IsDue c w w.task in
    let P : List Fact → Type 0 = λ fs. All (IsProper c) fs in
    let a = All-pop F old.later.items new.later.items (Some l) is h.later_proper in
    let d = All-pop D old.later.items new.later.items (Some l) is h.due in
    (record { proper = subst P (sym facts) h.proper; later_proper = a.0; due = d.0 }, a.1, d.1)

-- no branch waits
pub no_items : {X : Type 0} (xs : List X) → length xs ≡ 0 → xs ≡ []
no_items [] e = refl
no_items (x ∷ xs) e = absurd (omega (arith, e))

pub kept_none : (c : Case) (old new : State) → new.facts.items ≡ old.facts.items → new.later.items ≡ [] → AreKept c old → AreKept c new
kept_none c old new facts none h =
    let L : List Later → Type 0 = λ ls. All (λ l. IsProper c l.fact) ls in
    let D : List Later → Type 0 = λ ls. All (λ l. IsDue c l l.task) ls in
    let P : List Fact → Type 0 = λ fs. All (IsProper c) fs in
    record {
      proper = subst P (sym facts) h.proper;
      later_proper = subst L (sym none) (All-nil (λ (l : Later). IsProper c l.fact));
      due = subst D (sym none) (All-nil (λ (l : Later). IsDue c l l.task));
    }

-- the first facts of a branch, and one more
pub kept_entered : (c : Case) (old mid : State) (n : ℕ) (x : Fact) → IsProper c x → mid.facts.items ≡ take n old.facts.items ++ x ∷ []
    → mid.later.items ≡ old.later.items
    → AreKept c old → AreKept c mid
kept_entered c old mid n x proper facts later h =
    let L : List Later → Type 0 = λ ls. All (λ l. IsProper c l.fact) ls in
    let D : List Later → Type 0 = λ ls. All (λ l. IsDue c l l.task) ls in
    let P : List Fact → Type 0 = λ fs. All (IsProper c) fs in
    record {
      proper = subst P (sym facts) (All-push (IsProper c) (take n old.facts.items) x (All-take (IsProper c) n old.facts.items h.proper) proper);
      later_proper = subst L (sym later) h.later_proper;
      due = subst D (sym later) h.due;
    }

pub entered_branch : (old mid : State) (l : Later) (x : Fact) → mid.facts.items ≡ take l.count old.facts.items ++ x ∷ [] → plain_fact x ≡ plain_fact l.fact
    → branch_of mid ≡ take l.count (branch_of old) ++ plain_fact l.fact ∷ []
entered_branch old mid l x facts same =
    branch_push (take l.count old.facts.items) mid.facts.items x (plain_fact l.fact) facts same
    ∙ ap (λ (y : Branch). y ++ plain_fact l.fact ∷ []) (sym (take-map plain_fact l.count old.facts.items))

pub entered_fact : (old mid : State) (l : Later) (x : Fact) → mid.facts.items ≡ take l.count old.facts.items ++ x ∷ [] → plain_fact x ≡ plain_fact l.fact
    → l.count ≤ length (branch_of old) → HasFact (branch_of mid) l.count (plain_fact l.fact)
entered_fact old mid l x facts same within =
    let b = take l.count (branch_of old) in
    let P : Branch → Type 0 = λ y. HasFact y l.count (plain_fact l.fact) in
    subst P (sym (entered_branch old mid l x facts same)) (last_fact b (plain_fact l.fact) l.count (length-take-le l.count (branch_of old) within))

-- a leaf changes no fact and no branch that waits
pub kept_closed : (c : Case) (old new : State) → HasClosedBy old new → AreKept c old → AreKept c new
kept_closed c old new by h =
    let L : List Later → Type 0 = λ ls. All (λ l. IsProper c l.fact) ls in
    let D : List Later → Type 0 = λ ls. All (λ l. IsDue c l l.task) ls in
    let P : List Fact → Type 0 = λ fs. All (IsProper c) fs in
    record {
      proper = subst P (sym by.facts) h.proper;
      later_proper = subst L (sym by.later) h.later_proper;
      due = subst D (sym by.later) h.due;
    }

module _ (c : Case) (rows : List (Row Node)) (start : List Branch) where
  left_same : (b b2 : Branch) (es es2 : List Entry) (ls ls2 : List Later) (ss ss2 : List LiftedStep) (opens : List TreeBranch)
      → b ≡ b2 → es ≡ es2 → ls ≡ ls2 → ss ≡ ss2
      → HasClosedFirst c rows start b es ls ss opens → HasClosedFirst c rows start b2 es2 ls2 ss2 opens
  left_same b b2 es es2 ls ls2 ss ss2 opens e f g h x =
      let A : Branch → Type 0 = λ y. HasClosedFirst c rows start y es ls ss opens in
      let B : List Entry → Type 0 = λ y. HasClosedFirst c rows start b2 y ls ss opens in
      let C : List Later → Type 0 = λ y. HasClosedFirst c rows start b2 es2 y ss opens in
      let D : List LiftedStep → Type 0 = λ y. HasClosedFirst c rows start b2 es2 ls2 y opens in
      subst D h (subst C g (subst B f (subst A e x)))

  -- a leaf closed the first branch
  pub left_by : (old new : State) (opens : List TreeBranch) → HasClosedBy old new → IsGoodState c rows start old
      → IsMatchedState c rows old opens → LeavesWaiting c rows start new opens
  left_by old new opens by good found =
      let l = by.closes c rows good.known in
      left_same (branch_of old) (branch_of new) old.known new.known (reverse old.later.items) (reverse new.later.items) new.steps new.steps opens
      (ap (map plain_fact) (sym by.facts)) (sym by.known) (ap reverse (sym by.later)) refl
      (record {
        run = ran_close c start old.steps new.steps l.0 (branch_of old) (waiting (branch_of old) (reverse old.later.items)) l.1 l.2 good.run;
        later = good.later;
        matched = found;
      })

  -- after a first part of the branch
  waiting_whole : (b : Branch) (n : ℕ) (es : List Entry) (ls : List Later) → AreLater c rows (take n b) es ls → waiting b ls ≡ waiting (take n b) ls
  waiting_whole b n es ls h =
      ap (λ (x : Branch). waiting x ls) (sym (take-append-drop n b)) ∙ waiting_more c rows (take n b) (drop n b) es ls h

  later_whole : (b : Branch) (es : List Entry) (n m : ℕ) (ls : List Later) → AreLater c rows (take n b) (take m es) ls → AreLater c rows b es ls
  later_whole b es n m ls h =
      let more = later_more c rows (take n b) (drop n b) (take m es) (drop m es) ls h in
      let A : Branch → Type 0 = λ x. AreLater c rows x (take m es ++ drop m es) ls in
      let B : List Entry → Type 0 = λ y. AreLater c rows b y ls in
      subst B (take-append-drop m es) (subst A (take-append-drop n b) more)

  matched_whole : (b : Branch) (es : List Entry) (m : ℕ) (ls : List Later) (opens : List TreeBranch) → AreLater c rows b (take m es) ls
      → AreMatched c rows (take m es) ls opens → AreMatched c rows es ls opens
  matched_whole b es m ls opens h found =
      let B : List Entry → Type 0 = λ y. AreMatched c rows y ls opens in
      subst B (take-append-drop m es) (matched_more c rows b (take m es) (drop m es) ls opens h found)

  due_inside : (es : List Entry) (l : Later) (ls : List Later) (opens : List TreeBranch) → l.task ≡ Close
      → AreMatched c rows es (l ∷ ls) opens → AreMatched c rows (take l.known es) ls opens
  due_inside es l ls opens task (due m e rest) = rest
  due_inside es l ls opens task (side m p ps e s rest) = absurd (close_not_side p (sym task ∙ e))

  -- a branch that only waited to be closed was so
  pub left_due : (b : Branch) (es : List Entry) (l : Later) (ls : List Later) (steps new : List LiftedStep) (opens : List TreeBranch)
      → l.task ≡ Close → HasClosedFirst c rows start b es (l ∷ ls) steps opens
      → HasClosed c (plain_fact l.fact) l.count (l.count + 1) steps new → HasClosedFirst c rows start b es ls new opens
  left_due b es l ls steps new opens task h closed =
      let count : length (take l.count b) ≡ l.count = length-take-le l.count b h.later.0 in
      let inside = due_inside es l ls opens task h.matched in
      let run = closed start (take l.count b ++ plain_fact l.fact ∷ []) (waiting (take l.count b) ls)
      (one_longer (take l.count b) (plain_fact l.fact) l.count (l.count + 1) count refl) (last_fact (take l.count b) (plain_fact l.fact) l.count count) h.run in
      let P : List Branch → Type 0 = λ ws. Runs c new start ws in
      record {
        run = subst P (sym (waiting_whole b l.count (take l.known es) ls h.later.3)) run;
        later = later_whole b es l.count l.known ls h.later.3;
        matched = matched_whole (take l.count b) es l.known ls opens h.later.3 inside;
      }

  -- one that takes a side
  pub left_side : (b : Branch) (es : List Entry) (l : Later) (ls : List Later) (steps : List LiftedStep) (opens : List TreeBranch) (p : ℕ)
      → l.task ≡ Side p → HasClosedFirst c rows start b es (l ∷ ls) steps opens
      → (ps : TreeBranch) × (rest : List TreeBranch) × (opens ≡ ps ∷ rest) × CanEnterNext c rows start b es l ls steps p ps rest
  left_side b es l ls steps opens p task h = go opens h.matched
    where
      same_place : (q : ℕ) → Side q ≡ Side p → q ≡ p
      same_place q e = cc

      go : (os : List TreeBranch) → AreMatched c rows es (l ∷ ls) os
          → (ps : TreeBranch) × (rest : List TreeBranch) × (os ≡ ps ∷ rest) × CanEnterNext c rows start b es l ls steps p ps rest
      go os (due m e inside) = absurd (close_not_side p (sym e ∙ task))
      go os (side {opens = rest} m q ps e s inside) =
          let P : ℕ → Type 0 = λ n. IsSide c rows (take l.known es) l n ps in
          (ps, rest, refl, record { run = h.run; later = h.later; takes = subst P (same_place q (sym e ∙ task)) s; matched = inside })

  no_branch : (es : List Entry) (opens : List TreeBranch) → AreMatched c rows es [] opens → opens ≡ []
  no_branch es opens no_more = refl

  pub left_none : (b : Branch) (es : List Entry) (ls : List Later) (steps : List LiftedStep) (opens : List TreeBranch)
      → ls ≡ [] → HasClosedFirst c rows start b es ls steps opens
      → (opens ≡ []) × Runs c steps start []
  left_none b es ls steps opens none h =
      let A : List Later → Type 0 = λ y. AreMatched c rows es y opens in
      let B : List Later → Type 0 = λ y. Runs c steps start (waiting b y) in
      (no_branch es opens (subst A none h.matched), subst B none h.run)

  -- the next branch is entered
  pub entered : (old mid new : State) (l : Later) (x : Fact) (p : ℕ) (ps : TreeBranch) (rest : List TreeBranch) → CanEnter c rows start old l p ps rest
      → mid.facts.items ≡ take l.count old.facts.items ++ x ∷ [] → plain_fact x ≡ plain_fact l.fact
      → mid.known ≡ take l.known old.known → mid.later.items ≡ old.later.items → mid.steps ≡ old.steps
      → HasUnfolded c rows (fact_tree c (plain_fact l.fact)) p mid new → FollowsBranches c rows start new (ps ∷ rest)
  entered old mid new l x p ps rest h facts same known later steps unfolded =
      let b = take l.count (branch_of old) in
      let es = take l.known old.known in
      let f = plain_fact l.fact in
      let ls = reverse old.later.items in
      let branch : branch_of mid ≡ b ++ f ∷ [] = entered_branch old mid l x facts same in
      let turned : reverse mid.later.items ≡ ls = ap reverse later in
      let good : IsGoodState c rows start mid =
      good_same c rows start (b ++ f ∷ []) (branch_of mid) es mid.known ls (reverse mid.later.items) old.steps mid.steps
      (sym branch) (sym known) (sym turned) (sym steps)
      (good_waits c rows start b f es ls old.steps h.run h.later.2 h.later.3) in
      let found : IsMatchedState c rows mid rest = matched_same c rows es mid.known ls (reverse mid.later.items) rest (sym known) (sym turned) h.matched in
      let P : List Entry → Type 0 = λ y. HaveMore y new.known in
      let keys = subst P known unfolded.moves.keys in
      let Q : TreeBranch → Type 0 = λ qs. IsCovered rows new.known qs in
      record {
        first = ps;
        rest = rest;
        are = refl;
        good = unfolded.moves.good start good;
        covered = subst Q (sym h.takes.all)
            (covered_side rows new.known h.takes.before (asserted (fact_tree c f) p)
            (covered_more rows es new.known h.takes.before keys h.takes.covered) unfolded.told);
        matched = unfolded.moves.matched start rest good found;
      }
