-- What is known stays known while a branch goes on.
use Rattle.std.proofs.Common.{◌≡◌, ◌⊎◌, inl, inr, ℕ, true, false, List, [], ◌∷◌, ◌++◌, Some, take, refl, sym, ap, subst, arith, length-append}
use Rattle.std.proofs.lemmas.List.{append-nil, take-append-le}
use Rattle.pc_common.{specs.{Case.{Case}, World.{Node}}, proofs.{Elements.{In, in_front}, Places.{slice_get-more}}}
use Rattle.pc_ground.specs.{declared.row.Row.{Row}, Refutes.{Branch as TreeBranch}}
use Rattle.lifted_facts.specs.{PlainFacts.{PlainFact, Branch, plain_fact, one_node, one_edge}, Lifted.{LiftedStep, Runs}}
use Rattle.lifter.specs.declared.state.Later.{Later}
use Rattle.refutation.specs.BranchFacts.{PlainBranchFact, at_position, edge, no_edge, no_node, present}
use Rattle.lifter.specs.KnownFacts.{Entry, entry, HasKey, IsKnown, AreKnown, HasMarked, HaveMore}
use Rattle.lifter.specs.States.{waiting, AreLater, IsGood, IsSide, AreMatched, no_more, due, side}

module _ (c : Case) (rows : List (Row Node)) where
  pub known_more : (b more : Branch) (key : PlainBranchFact) (k : ℕ) → IsKnown c rows b key k → IsKnown c rows (b ++ more) key k
  known_more b more (at_position q) k h = (h.0, h.1, slice_get-more b more k h.1 h.2, h.3)
  known_more b more (edge x y) k h = slice_get-more b more k (one_edge true (Some x) (Some y)) h
  known_more b more (no_edge x y) k h = slice_get-more b more k (one_edge false (Some x) (Some y)) h
  known_more b more (no_node a) k h = slice_get-more b more k (one_node false (Some a)) h
  known_more b more (present a) k h = (h.0, slice_get-more b more k h.0 h.1, h.2)

  pub all_known_more : (b more : Branch) (es : List Entry) → AreKnown c rows b es → AreKnown c rows (b ++ more) es
  all_known_more b more es h key k i = known_more b more key k (h key k i)

  pub later_more : (b more : Branch) (es further : List Entry) (ls : List Later) → AreLater c rows b es ls → AreLater c rows (b ++ more) (es ++ further) ls
  later_more b more es further [] h = tt
  later_more b more es further (l ∷ ls) h =
      let tb = take-append-le l.count b more h.0 in
      let te = take-append-le l.known es further h.1 in
      let Q : List Entry → Type 0 = λ y. AreKnown c rows (take l.count b) y × AreLater c rows (take l.count b) y ls in
      let P : Branch → Type 0 = λ x. AreKnown c rows x (take l.known (es ++ further)) × AreLater c rows x (take l.known (es ++ further)) ls in
      let both = subst P (sym tb) (subst Q (sym te) (h.2, h.3)) in
      let n = length-append b more in
      let m = length-append es further in
      (omega (arith, h.0, n), omega (arith, h.1, m), both.0, both.1)

  pub waiting_more : (b more : Branch) (es : List Entry) (ls : List Later) → AreLater c rows b es ls → waiting (b ++ more) ls ≡ waiting b ls
  waiting_more b more es [] h = refl
  waiting_more b more es (l ∷ ls) h = ap (λ (first : Branch). (first ++ plain_fact l.fact ∷ []) ∷ waiting first ls) (take-append-le l.count b more h.0)

  pub matched_more : (b : Branch) (es further : List Entry) (ls : List Later) (opens : List TreeBranch) → AreLater c rows b es ls
      → AreMatched c rows es ls opens
      → AreMatched c rows (es ++ further) ls opens
  matched_more b es further ls opens h no_more = no_more
  matched_more b es further ls opens h (due {ls = tail} l e rest) =
      let P : List Entry → Type 0 = λ y. AreMatched c rows y tail opens in
      due l e (subst P (sym (take-append-le l.known es further h.1)) rest)
  matched_more b es further ls opens h (side {ls = tail} {opens = others} l p ps e s rest) =
      let te = sym (take-append-le l.known es further h.1) in
      let P : List Entry → Type 0 = λ y. AreMatched c rows y tail others in
      let Q : List Entry → Type 0 = λ y. IsSide c rows y l p ps in
      side l p ps e (subst Q te s) (subst P te rest)

  -- one fact more
  pub good_fact : (start : List Branch) (b : Branch) (g : PlainFact) (es : List Entry) (ls : List Later) (old new : List LiftedStep)
      → IsGood c rows start b es ls old
      → Runs c new start ((b ++ g ∷ []) ∷ waiting b ls) → IsGood c rows start (b ++ g ∷ []) es ls new
  good_fact start b g es ls old new h r = record {
    run = (let P : List Branch → Type 0 = λ ws. Runs c new start ((b ++ g ∷ []) ∷ ws) in subst P (sym (waiting_more b (g ∷ []) es ls h.later)) r);
    known = all_known_more b (g ∷ []) es h.known;
    later = (let P : List Entry → Type 0 = λ xs. AreLater c rows (b ++ g ∷ []) xs ls in subst P (append-nil es) (later_more b (g ∷ []) es [] ls h.later));
  }

  -- one key more
  pub good_key : (start : List Branch) (b : Branch) (old new : List Entry) (key : PlainBranchFact) (k : ℕ) (ls : List Later) (steps : List LiftedStep)
      → IsGood c rows start b old ls steps → HasMarked old key k new → IsKnown c rows b key k → IsGood c rows start b new ls steps
  good_key start b old new key k ls steps h m is = record {
    run = h.run;
    known = λ other j i. go other j (m.each other j i);
    later = (let P : List Entry → Type 0 = λ xs. AreLater c rows b xs ls in
        subst P (sym m.first) (let B : Branch → Type 0 = λ x. AreLater c rows x (old ++ m.more) ls in subst B (append-nil b)
        (later_more b [] old m.more ls h.later)));
  }
    where
      go : (other : PlainBranchFact) (j : ℕ) → In (entry other j) old ⊎ ((key ≡ other) × (k ≡ j)) → IsKnown c rows b other j
      go other j (inl i) = h.known other j i
      go other j (inr e) =
          let P : PlainBranchFact → Type 0 = λ x. IsKnown c rows b x k in
          let Q : ℕ → Type 0 = λ n. IsKnown c rows b other n in
          subst Q e.1 (subst P e.0 is)

  pub good_same : (start : List Branch) (b b2 : Branch) (es es2 : List Entry) (ls ls2 : List Later) (ss ss2 : List LiftedStep) → b ≡ b2 → es ≡ es2 → ls ≡ ls2
      → ss ≡ ss2
      → IsGood c rows start b es ls ss → IsGood c rows start b2 es2 ls2 ss2
  good_same start b b2 es es2 ls ls2 ss ss2 e f g h x =
      let A : Branch → Type 0 = λ y. IsGood c rows start y es ls ss in
      let B : List Entry → Type 0 = λ y. IsGood c rows start b2 y ls ss in
      let C : List Later → Type 0 = λ y. IsGood c rows start b2 es2 y ss in
      let D : List LiftedStep → Type 0 = λ y. IsGood c rows start b2 es2 ls2 y in
      subst D h (subst C g (subst B f (subst A e x)))

  pub matched_same : (es es2 : List Entry) (ls ls2 : List Later) (opens : List TreeBranch) → es ≡ es2 → ls ≡ ls2 → AreMatched c rows es ls opens
      → AreMatched c rows es2 ls2 opens
  matched_same es es2 ls ls2 opens f g x =
      let B : List Entry → Type 0 = λ y. AreMatched c rows y ls opens in
      let C : List Later → Type 0 = λ y. AreMatched c rows es2 y opens in
      subst C g (subst B f x)

pub keys_front : (old more : List Entry) → HaveMore old (old ++ more)
keys_front old more key h = (h.0, in_front (entry key h.0) old more h.1)

pub keys_same : (old new : List Entry) → new ≡ old → HaveMore old new
keys_same old new e key h = (let P : List Entry → Type 0 = λ es. HasKey es key in subst P (sym e) h)
