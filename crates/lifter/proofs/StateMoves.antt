-- What the moves of the state keep.
use Rattle.std.proofs.Common.{◌≡◌, ℕ, suc, ◌+◌, List, [], ◌∷◌, ◌++◌, length, map, take, reverse, refl, sym, ◌∙◌, ap, subst, arith, append_assoc}
use Rattle.std.{proofs.{Math.Seq.{take-length}, lemmas.List.{append-nil, map-append, reverse-append, Elements.{All-push}}}, specs.Prelude.{All}}
use Rattle.pc_common.{specs.{Case.{Case}, World.{Node}}, proofs.Places.{slice_get-more}}
use Rattle.pc_ground.specs.declared.row.Row.{Row}
use Rattle.lifted_facts.specs.{declared.{fact.Fact.{Fact}, way.Way.{Way}}, PlainFacts.{PlainFact, Branch, plain_fact, IsProper}}
use Rattle.lifted_facts.specs.Lifted.{LiftedStep, derive, split, HasFact, HasPart, HasSides, Runs}
use Rattle.lifter.specs.{Trees.{fact_tree}, declared.{kind.FactKind.TheVariants.{False}, state.{Task.{Task, TheVariants.{Close}}, Later.{Later}, State.{State}}}}
use Rattle.refutation.specs.BranchFacts.{PlainBranchFact}
use Rattle.lifter.specs.{Kinds.{kind_of}, Closings.{HasClosed}, KnownFacts.{Entry, IsKnown, AreKnown, HasMarked, HaveMore}}
use Rattle.lifter.specs.States.{branch_of, waiting, IsDue, AreKept, AreLater, IsGood, IsGoodState, AreMatched, due, Moves, HasGained}
use Rattle.lifter.proofs.RunsMore.{last_fact, one_longer, ran_derive, ran_split}
use Rattle.lifter.proofs.KnownLaws.{waiting_more, all_known_more, good_fact, good_key, good_same, matched_same, matched_more, later_more, keys_front, keys_same}

pub branch_push : (facts new : List Fact) (x : Fact) (g : PlainFact) → new ≡ facts ++ x ∷ [] → plain_fact x ≡ g
    → map plain_fact new ≡ map plain_fact facts ++ g ∷ []
branch_push facts new x g is same = ap (map plain_fact) is ∙ map-append plain_fact facts (x ∷ []) ∙ ap (λ (f : PlainFact). map plain_fact facts ++ f ∷ []) same

pub mapped_length : (facts : List Fact) → length (map plain_fact facts) ≡ length facts
mapped_length [] = refl
mapped_length (f ∷ fs) = ap suc (mapped_length fs)

module _ (c : Case) (rows : List (Row Node)) where
  pub moves_same : (s : State) → Moves c rows s s
  moves_same s = record {
    more = [];
    facts = sym (append-nil (branch_of s));
    keys = λ key h. h;
    kept = λ h. h;
    good = λ start h. h;
    matched = λ start opens g h. h;
  }

  pub moves_then : (old mid new : State) → Moves c rows old mid → Moves c rows mid new → Moves c rows old new
  moves_then old mid new x y = record {
    more = x.more ++ y.more;
    facts = y.facts ∙ ap (λ (b : Branch). b ++ y.more) x.facts ∙ append_assoc (branch_of old) x.more y.more;
    keys = λ key h. y.keys key (x.keys key h);
    kept = λ h. y.kept (x.kept h);
    good = λ start h. y.good start (x.good start h);
    matched = λ start opens g h. y.matched start opens (x.good start g) (x.matched start opens g h);
  }

  -- a fact stays the one of its number
  pub moved_fact : (old new : State) (k : ℕ) (f : PlainFact) → Moves c rows old new → HasFact (branch_of old) k f → HasFact (branch_of new) k f
  moved_fact old new k f m h = (let P : Branch → Type 0 = λ b. HasFact b k f in subst P (sym m.facts) (slice_get-more (branch_of old) m.more k f h))

  pub gained_fact : (old new : State) (k : ℕ) (g : PlainFact) → HasGained c rows old new k g → HasFact (branch_of new) k g
  gained_fact old new k g h = (let P : Branch → Type 0 = λ b. HasFact b k g in subst P (sym h.last) (last_fact (branch_of old) g k (sym h.number)))

  kept_push : (old new : State) (x : Fact) → IsProper c x → new.facts.items ≡ old.facts.items ++ x ∷ [] → new.later.items ≡ old.later.items → AreKept c old
      → AreKept c new
  kept_push old new x proper is same h = record {
    proper = (let P : List Fact → Type 0 = λ fs. All (IsProper c) fs in subst P (sym is) (All-push (IsProper c) old.facts.items x h.proper proper));
    later_proper = (let P : List Later → Type 0 = λ ls. All (λ l. IsProper c l.fact) ls in subst P (sym same) h.later_proper);
    due = (let P : List Later → Type 0 = λ ls. All (λ l. IsDue c l l.task) ls in subst P (sym same) h.due);
  }

  pub derived : (old new : State) (way : Way) (k n : ℕ) (x : Fact) (g : PlainFact) → IsProper c x → plain_fact x ≡ g → HasPart c (branch_of old) way k g
      → n ≡ length old.facts.items
      → new.facts.items ≡ old.facts.items ++ x ∷ [] → new.known ≡ old.known → new.later.items ≡ old.later.items → new.steps ≡ old.steps ++ derive way k ∷ []
      → HasGained c rows old new n g
  derived old new way k n x g proper same part number is known later steps =
      let last = branch_push old.facts.items new.facts.items x g is same in
      record {
        number = number ∙ sym (mapped_length old.facts.items);
        last = last;
        moves = record {
          more = g ∷ [];
          facts = last;
          keys = keys_same old.known new.known known;
          kept = kept_push old new x proper is later;
          good = λ start h.
              good_same c rows start (branch_of old ++ g ∷ []) (branch_of new) old.known new.known (reverse old.later.items) (reverse new.later.items)
              new.steps new.steps
              (sym last) (sym known) (ap reverse (sym later)) refl
              (good_fact c rows start (branch_of old) g old.known (reverse old.later.items) old.steps new.steps h
              (ran_derive c start old.steps new.steps way k (branch_of old) g (waiting (branch_of old) (reverse old.later.items)) part steps h.run));
          matched = λ start opens h m.
              matched_same c rows old.known new.known (reverse old.later.items) (reverse new.later.items) opens (sym known) (ap reverse (sym later)) m;
        };
      }

  pub lost_first : (old new : State) (k n : ℕ) (g : PlainFact) (x : Fact) (h : PlainFact) (one : List LiftedStep) → IsProper c x → plain_fact x ≡ h
      → HasSides c (branch_of old) k g h → n ≡ length old.facts.items → one ≡ old.steps ++ split k ∷ [] → HasClosed c g n (n + 1) one new.steps
      → new.facts.items ≡ old.facts.items ++ x ∷ [] → new.known ≡ old.known → new.later.items ≡ old.later.items
      → HasGained c rows old new n h
  lost_first old new k n g x h one proper same sides number first closed is known later =
      let last = branch_push old.facts.items new.facts.items x h is same in
      let size : length (branch_of old) ≡ n = mapped_length old.facts.items ∙ sym number in
      record {
        number = sym size;
        last = last;
        moves = record {
          more = h ∷ [];
          facts = last;
          keys = keys_same old.known new.known known;
          kept = kept_push old new x proper is later;
          good = λ start good.
              let b = branch_of old in
              let ws = waiting b (reverse old.later.items) in
              let split_run = ran_split c start old.steps one k b g h ws sides first good.run in
              good_same c rows start (b ++ h ∷ []) (branch_of new) old.known new.known (reverse old.later.items) (reverse new.later.items) new.steps new.steps
              (sym last) (sym known) (ap reverse (sym later)) refl
              (good_fact c rows start b h old.known (reverse old.later.items) old.steps new.steps good
              (closed start (b ++ g ∷ []) ((b ++ h ∷ []) ∷ ws) (one_longer b g n (n + 1) size refl) (last_fact b g n size) split_run));
          matched = λ start opens good found.
              matched_same c rows old.known new.known (reverse old.later.items) (reverse new.later.items) opens (sym known) (ap reverse (sym later)) found;
        };
      }

  pub good_waits : (start : List Branch) (b : Branch) (g : PlainFact) (es : List Entry) (ls : List Later) (steps : List LiftedStep)
      → Runs c steps start ((b ++ g ∷ []) ∷ waiting b ls)
      → AreKnown c rows b es → AreLater c rows b es ls → IsGood c rows start (b ++ g ∷ []) es ls steps
  good_waits start b g es ls steps r known later = record {
    run = (let P : List Branch → Type 0 = λ ws. Runs c steps start ((b ++ g ∷ []) ∷ ws) in subst P (sym (waiting_more c rows b (g ∷ []) es ls later)) r);
    known = all_known_more c rows b (g ∷ []) es known;
    later = (let P : List Entry → Type 0 = λ xs. AreLater c rows (b ++ g ∷ []) xs ls in subst P (append-nil es) (later_more c rows b (g ∷ []) es [] ls later));
  }

  -- a split, of which the second branch waits
  waits_run : (start : List Branch) (b : Branch) (g : PlainFact) (es : List Entry) (ls : List Later) (l : Later) (old new : List LiftedStep) (k : ℕ)
      → IsGood c rows start b es ls old
      → HasSides c b k g (plain_fact l.fact) → l.count ≡ length b → l.known ≡ length es → new ≡ old ++ split k ∷ []
      → IsGood c rows start (b ++ g ∷ []) es (l ∷ ls) new
  waits_run start b g es ls l old new k h sides count known is =
      let w = ran_split c start old new k b g (plain_fact l.fact) (waiting b ls) sides is h.run in
      let tb : take l.count b ≡ b = ap (λ n. take n b) count ∙ take-length b in
      let te : take l.known es ≡ es = ap (λ n. take n es) known ∙ take-length es in
      let P : Branch → Type 0 = λ x. Runs c new start ((b ++ g ∷ []) ∷ (x ++ plain_fact l.fact ∷ []) ∷ waiting x ls) in
      let A : Branch → Type 0 = λ x. AreKnown c rows x (take l.known es) × AreLater c rows x (take l.known es) ls in
      let E : List Entry → Type 0 = λ y. AreKnown c rows b y × AreLater c rows b y ls in
      let both = subst A (sym tb) (subst E (sym te) (h.known, h.later)) in
      let later : AreLater c rows b es (l ∷ ls) = (omega (arith, count), omega (arith, known), both.0, both.1) in
      good_waits start b g es (l ∷ ls) new (subst P (sym tb) w) h.known later

  pub put_off : (old new : State) (k n : ℕ) (x : Fact) (g : PlainFact) (l : Later) → IsProper c x → plain_fact x ≡ g
      → HasSides c (branch_of old) k g (plain_fact l.fact) → n ≡ length old.facts.items → l.count ≡ n → l.known ≡ length old.known → IsProper c l.fact
      → IsDue c l l.task
      → new.facts.items ≡ old.facts.items ++ x ∷ [] → new.known ≡ old.known → new.later.items ≡ old.later.items ++ l ∷ []
      → new.steps ≡ old.steps ++ split k ∷ []
      → (n ≡ length (branch_of old)) × (branch_of new ≡ branch_of old ++ g ∷ []) × (AreKept c old → AreKept c new)
      × ((start : List Branch) → IsGoodState c rows start old → IsGoodState c rows start new) × (reverse new.later.items ≡ l ∷ reverse old.later.items)
  put_off old new k n x g l proper same sides number count keys later_proper is_due is known later steps =
      let last = branch_push old.facts.items new.facts.items x g is same in
      let size : length (branch_of old) ≡ n = mapped_length old.facts.items ∙ sym number in
      let turned : reverse new.later.items ≡ l ∷ reverse old.later.items = ap reverse later ∙ reverse-append old.later.items (l ∷ []) in (
        sym size,
        last,
        (λ h. record {
          proper = (let P : List Fact → Type 0 = λ fs. All (IsProper c) fs in subst P (sym is) (All-push (IsProper c) old.facts.items x h.proper proper));
          later_proper = (let P : List Later → Type 0 = λ ls. All (λ l. IsProper c l.fact) ls in
              subst P (sym later) (All-push (λ (w : Later). IsProper c w.fact) old.later.items l h.later_proper later_proper));
          due = (let P : List Later → Type 0 = λ ls. All (λ l. IsDue c l l.task) ls in subst P (sym later)
              (All-push (λ (w : Later). IsDue c w w.task) old.later.items l h.due is_due));
        }),
        (λ start h.
            good_same c rows start (branch_of old ++ g ∷ []) (branch_of new) old.known new.known (l ∷ reverse old.later.items) (reverse new.later.items)
            new.steps new.steps
            (sym last) (sym known) (sym turned) refl
            (waits_run start (branch_of old) g old.known (reverse old.later.items) l old.steps new.steps k h sides (count ∙ sym size) keys steps)),
        turned,
      )

  pub lost_second : (old new : State) (k n : ℕ) (x : Fact) (g : PlainFact) (l : Later) → IsProper c x → plain_fact x ≡ g
      → HasSides c (branch_of old) k g (plain_fact l.fact) → n ≡ length old.facts.items → l.count ≡ n → l.known ≡ length old.known → IsProper c l.fact
      → l.task ≡ Close → kind_of (fact_tree c (plain_fact l.fact)) ≡ False
      → new.facts.items ≡ old.facts.items ++ x ∷ [] → new.known ≡ old.known → new.later.items ≡ old.later.items ++ l ∷ []
      → new.steps ≡ old.steps ++ split k ∷ []
      → HasGained c rows old new n g
  lost_second old new k n x g l proper same sides number count keys later_proper task refused is known later steps =
      let D : Task → Type 0 = λ u. IsDue c l u in
      let p = put_off old new k n x g l proper same sides number count keys later_proper (subst D (sym task) refused) is known later steps in
      record {
        number = p.0;
        last = p.1;
        moves = record {
          more = g ∷ [];
          facts = p.1;
          keys = keys_same old.known new.known known;
          kept = p.2;
          good = p.3;
          matched = λ start opens h m.
              let te : take l.known old.known ≡ old.known = ap (λ j. take j old.known) keys ∙ take-length old.known in
              let P : List Entry → Type 0 = λ es. AreMatched c rows es (reverse old.later.items) opens in
              matched_same c rows old.known new.known (l ∷ reverse old.later.items) (reverse new.later.items) opens (sym known) (sym p.4)
              (due l task (subst P (sym te) m));
        };
      }

  -- a key more
  pub marked : (old new : State) (key : PlainBranchFact) (k : ℕ) → HasMarked old.known key k new.known → IsKnown c rows (branch_of old) key k
      → new.facts.items ≡ old.facts.items → new.later.items ≡ old.later.items → new.steps ≡ old.steps → Moves c rows old new
  marked old new key k m is facts later steps =
      let same : branch_of new ≡ branch_of old = ap (map plain_fact) facts in
      let turned : reverse new.later.items ≡ reverse old.later.items = ap reverse later in
      record {
        more = [];
        facts = same ∙ sym (append-nil (branch_of old));
        keys = (let P : List Entry → Type 0 = λ es. HaveMore old.known es in subst P (sym m.first) (keys_front old.known m.more));
        kept = λ h. record {
          proper = (let P : List Fact → Type 0 = λ fs. All (IsProper c) fs in subst P (sym facts) h.proper);
          later_proper = (let P : List Later → Type 0 = λ ls. All (λ l. IsProper c l.fact) ls in subst P (sym later) h.later_proper);
          due = (let P : List Later → Type 0 = λ ls. All (λ l. IsDue c l l.task) ls in subst P (sym later) h.due);
        };
        good = λ start h.
            good_same c rows start (branch_of old) (branch_of new) new.known new.known (reverse old.later.items) (reverse new.later.items) old.steps new.steps
            (sym same) refl (sym turned) (sym steps)
            (good_key c rows start (branch_of old) old.known new.known key k (reverse old.later.items) old.steps h m is);
        matched = λ start opens h found.
            let P : List Entry → Type 0 = λ es. AreMatched c rows es (reverse old.later.items) opens in
            matched_same c rows new.known new.known (reverse old.later.items) (reverse new.later.items) opens refl (sym turned)
            (subst P (sym m.first) (matched_more c rows (branch_of old) old.known m.more (reverse old.later.items) opens h.later found));
      }
